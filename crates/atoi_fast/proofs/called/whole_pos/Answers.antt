-- One load finds a number of a slice of few bytes, which begins with a digit.
use Rattle.std.proofs.Common.{◌<◌, arith}
use Rattle.std.proofs.lemmas.Bool.Decides.{nat_tests}
use Rattle.atoi_core.specs.Digit.{decimal_table}
use Rattle.atoi_core.specs.IntType.{class_of}
use Rattle.atoi_core.specs.Loads.{skips_zeros}
use Rattle.atoi_core.specs.Magnitude.{whole}
use Rattle.atoi_core.specs.Run.{run_len}
use Rattle.atoi_fast.proofs.lemmas.ShortNumbers.{short_load, starts_with_digit, whole_with_digit}
use Rattle.atoi_fast.proofs.called.whole_pos.Goals as goal

pub returns-in-Some-clause-answer : goal.returns-in-Some-clause-answer
returns-in-Some-clause-answer g c =
    let s = c.args.s.now in
    let some : 0 < run_len decimal_table s = starts_with_digit s (omega arith) (grind (arith, nat_tests)) (grind (arith, nat_tests)) in
    rw c.requires.decimal (whole_with_digit g.T.Number.int_type c.args.skip s _ some c.in-Some.ensures.number)

pub returns-in-Some-clause-loads : goal.returns-in-Some-clause-loads
returns-in-Some-clause-loads g c =
    let class = class_of g.T.Number.int_type in
    short_load g.E.Engine.table class (skips_zeros class whole c.args.skip) c.args.s.now (omega arith) c.loaded_slice.ensures.one_step
