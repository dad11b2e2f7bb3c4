-- The front finds a number of few bytes by one load.
use Rattle.std.proofs.Common.{◌+◌, ◌<◌, arith}
use Rattle.atoi_core.specs.IntType.{class_of}
use Rattle.atoi_core.specs.Loads.{most_loads, skips_zeros}
use Rattle.atoi_core.specs.Magnitude.{prefix}
use Rattle.atoi_core.specs.Run.{zeros}
use Rattle.atoi_core.specs.Sign.{sign_of}
use Rattle.atoi_fast.proofs.lemmas.ShortNumbers.{len-le, zeros-few, one_load}
use Rattle.atoi_fast.proofs.calls.parse_prefix_text.Goals as goal

pub returns-in-Some-clause-loads : goal.returns-in-Some-clause-loads
returns-in-Some-clause-loads g c =
    let int = g.T.Number.int_type in
    let body = (sign_of g.T.Number.SIGNED c.args.skip_plus c.args.s.now).body in
    let few : zeros g.E.Engine.table body < 32 =
    rw (c.requires.decimal, ← g.met.T.Number.type_is.sign_is)
    (omega (arith, c.in-Some.ensures.short, zeros-few int c.args.skip_plus c.args.s.now _ _ c.in-Some.ensures.answer)) in
    one_load g.E.Engine.table (most_loads g.E.Engine.table (class_of int) body + 1)
    (skips_zeros (class_of int) prefix c.args.skip) body (omega arith) few c.short_prefix.ensures.one_step

pub returns-in-Some-clause-within : goal.returns-in-Some-clause-within
returns-in-Some-clause-within g c = len-le g.T.Number.int_type c.args.s.now _ _ c.in-Some.ensures.answer
