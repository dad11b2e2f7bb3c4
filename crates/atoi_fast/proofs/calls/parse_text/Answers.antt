-- One load finds a number of a slice of few bytes.
use Rattle.std.proofs.Common.{◌<◌, length, arith}
use Rattle.atoi_core.specs.IntType.{class_of}
use Rattle.atoi_core.specs.Loads.{skips_zeros}
use Rattle.atoi_core.specs.Magnitude.{whole}
use Rattle.atoi_core.specs.Sign.{sign_of}
use Rattle.atoi_core.proofs.lemmas.Windows.{short_loads}
use Rattle.atoi_fast.proofs.lemmas.ShortNumbers.{body-le}
use Rattle.atoi_fast.proofs.calls.parse_text.Goals as goal

pub returns-in-48-to-57-clause-loads : goal.returns-in-48-to-57-clause-loads
returns-in-48-to-57-clause-loads g c =
    let class = class_of g.T.Number.int_type in
    let body = (sign_of g.T.Number.SIGNED c.args.skip_plus c.args.s.now).body in
    let few : length body < 16 = omega (arith, c.if-s-le1.true, body-le g.T.Number.SIGNED c.args.skip_plus c.args.s.now) in
    short_loads g.E.Engine.table class (skips_zeros class whole c.args.skip) body few c.loaded_digit.ensures.one_step

pub returns-in-Some-clause-loads : goal.returns-in-Some-clause-loads
returns-in-Some-clause-loads g c =
    let class = class_of g.T.Number.int_type in
    let body = (sign_of g.T.Number.SIGNED c.args.skip_plus c.args.s.now).body in
    let few : length body < 16 = omega (arith, c.if-s-le8.true, body-le g.T.Number.SIGNED c.args.skip_plus c.args.s.now) in
    short_loads g.E.Engine.table class (skips_zeros class whole c.args.skip) body few c.short_signed.ensures.one_step
