-- One load finds a number of a slice of few bytes.
use Rattle.std.proofs.Common.{◌<◌, length, arith}
use Rattle.atoi_core.specs.IntType.{class_of}
use Rattle.atoi_core.specs.Loads.{skips_zeros}
use Rattle.atoi_core.specs.Magnitude.{whole}
use Rattle.atoi_core.specs.Sign.{sign_of}
use Rattle.std.proofs.lemmas.Bool.Decides.{nat_tests}
use Rattle.atoi_fast.proofs.lemmas.ShortNumbers.{body-le, short_load}
use Rattle.atoi_fast.proofs.called.parse_text.Goals as goal

pub returns-in-Some-clause-loads : goal.returns-in-Some-clause-loads
returns-in-Some-clause-loads g c =
    let class = class_of g.T.Number.int_type in
    let body = (sign_of g.T.Number.SIGNED c.args.skip_plus c.args.s.now).body in
    let short : length c.args.s.now < 16 = grind (arith, nat_tests) in
    let few : length body < 16 = omega (arith, short, body-le g.T.Number.SIGNED c.args.skip_plus c.args.s.now) in
    short_load g.E.Engine.table class (skips_zeros class whole c.args.skip) body few c.loaded_slice.ensures.one_step
