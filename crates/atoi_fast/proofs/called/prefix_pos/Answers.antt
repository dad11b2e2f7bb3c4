-- The front finds a number of few bytes, without a sign, by one load.
use Rattle.std.proofs.Common.{◌+◌, ◌<◌, false, arith}
use Rattle.std.proofs.lemmas.Bool.Decides.{nat_tests}
use Rattle.atoi_core.specs.Digit.{decimal_table}
use Rattle.atoi_core.specs.IntType.{class_of}
use Rattle.atoi_core.specs.Loads.{most_loads, skips_zeros}
use Rattle.atoi_core.specs.Magnitude.{prefix}
use Rattle.atoi_core.specs.Run.{run_len, zeros}
use Rattle.atoi_core.proofs.lemmas.Calls.{sign_of_digits}
use Rattle.atoi_fast.proofs.lemmas.ShortNumbers.{begins_with_digit, len-le, one_load, starts_with_digit, zeros-few}
use Rattle.atoi_fast.proofs.called.prefix_pos.Goals as goal

pub returns-in-Some : goal.returns-in-Some
returns-in-Some g c =
    let int = g.T.Number.int_type in
    let s = c.args.s.now in
    let some : 0 < run_len decimal_table s = starts_with_digit s (omega arith) (grind (arith, nat_tests)) (grind (arith, nat_tests)) in
    let leading = rw (sign_of_digits int.signed false s some) at (zeros-few int false s _ _ c.in-Some.ensures.answer) in
    let few : zeros g.E.Engine.table s < 32 = rw c.requires.decimal (omega (arith, c.in-Some.ensures.short, leading)) in
    record {
      answer = rw c.requires.decimal (begins_with_digit int c.args.skip s _ _ some c.in-Some.ensures.answer);
      within = len-le int s _ _ c.in-Some.ensures.answer;
      loads = one_load g.E.Engine.table (most_loads g.E.Engine.table (class_of int) s + 1)
          (skips_zeros (class_of int) prefix c.args.skip) s (omega arith) few c.loaded_prefix.ensures.one_step;
    }
