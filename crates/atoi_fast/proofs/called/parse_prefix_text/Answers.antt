-- The front finds a number of few bytes by one load.
use Rattle.std.proofs.Common.{◌+◌, ◌<◌, length, arith}
use Rattle.atoi_core.specs.IntType.{class_of}
use Rattle.atoi_core.specs.Loads.{most_loads, skips_zeros}
use Rattle.atoi_core.specs.Magnitude.{prefix}
use Rattle.atoi_core.specs.Run.{zeros}
use Rattle.atoi_core.specs.Sign.{sign_of}
use Rattle.atoi_fast.proofs.lemmas.ShortNumbers.{body-le, len-le, zeros-few, one_load, short_load, prefix_of_whole}
use Rattle.atoi_fast.proofs.called.parse_prefix_text.Goals as goal

pub returns-in-Some-clause-loads : goal.returns-in-Some-clause-loads
returns-in-Some-clause-loads g c =
    let int = g.T.Number.int_type in
    let body = (sign_of g.T.Number.SIGNED c.args.skip_plus c.args.s.now).body in
    let few : zeros g.E.Engine.table body < 32 =
    rw (c.requires.decimal, ← g.met.T.Number.type_is.sign_is)
    (omega (arith, c.in-Some.ensures.short, zeros-few int c.args.skip_plus c.args.s.now _ _ c.in-Some.ensures.answer)) in
    one_load g.E.Engine.table (most_loads g.E.Engine.table (class_of int) body + 1)
    (skips_zeros (class_of int) prefix c.args.skip) body (omega arith) few c.short_prefix.ensures.one_step

pub returns-in-Some-clause-within : goal.returns-in-Some-clause-within
returns-in-Some-clause-within g c = len-le g.T.Number.int_type c.args.s.now _ _ c.in-Some.ensures.answer

pub returns-in-Some-loaded_slice-clause-answer : goal.returns-in-Some-loaded_slice-clause-answer
returns-in-Some-loaded_slice-clause-answer g c =
    rw c.requires.decimal
    (prefix_of_whole g.T.Number.int_type c.args.s.now _ (omega arith) c.in-Some-loaded_slice.ensures.number c.args.skip c.args.skip_plus)

pub returns-in-Some-loaded_slice-clause-loads : goal.returns-in-Some-loaded_slice-clause-loads
returns-in-Some-loaded_slice-clause-loads g c =
    let class = class_of g.T.Number.int_type in
    let body = (sign_of g.T.Number.SIGNED c.args.skip_plus c.args.s.now).body in
    let few : length body < 16 = omega (arith, body-le g.T.Number.SIGNED c.args.skip_plus c.args.s.now) in
    short_load g.E.Engine.table class (skips_zeros class prefix c.args.skip) body few c.loaded_slice.ensures.one_step
