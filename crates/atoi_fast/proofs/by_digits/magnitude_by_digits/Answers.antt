-- The digits end at another byte, or at the end.
use Rattle.std.proofs.Common.{◌≡◌, ◌+◌, ◌-◌, ◌*◌, ◌<◌, get_or, Some, sym, ◌∙◌, arith}
use Rattle.std.proofs.lemmas.Bool.Decides.{nat_tests}
use Rattle.std.proofs.lemmas.List.Sums.{prefix_len-drop_all}
use Rattle.atoi_core.specs.Digit.{decimal_table, is_digit}
use Rattle.atoi_core.specs.Run.{run_len}
use Rattle.atoi_core.proofs.lemmas.Runs.{run_more, run_ends, value_more, value-take-le}
use Rattle.atoi_fast.proofs.lemmas.ByDigits.{appended, too_large}
use Rattle.atoi_fast.proofs.by_digits.magnitude_by_digits.Goals as goal

pub returns-in_err-number-clause-none : goal.returns-in_err-number-clause-none
returns-in_err-number-clause-none c =
    let s = c.args.s.now in
    let len = c.loop-len.len in
    let w = get_or s len 0 - 48 in
    let digit : decimal_table (get_or s len 0) ≡ Some w = grind (arith, nat_tests, c.if-is_ascii_digit.true, c.is_ascii_digit.ensures) in
    let more = run_more decimal_table s len w c.loop-len-test.true digit c.loop-len.invariant.digits in
    let sum = value_more decimal_table s len w c.loop-len-test.true digit in
    let least = value-take-le decimal_table s (len + 1) (run_len decimal_table s) (omega arith) in
    let above : c.args.bound < c.loop-len.number * 10 + w = too_large _ _ (sym c.in_err-number.was ∙ c.append_digit.ensures) in
    rw c.from_residual.ensures (λ _. omega (arith, c.loop-len.invariant.number, sum, least, above))

pub loop-len-preserved : goal.loop-len-preserved
loop-len-preserved c =
    let s = c.args.s.now in
    let len = c.loop-len.len in
    let w = get_or s len 0 - 48 in
    let digit : decimal_table (get_or s len 0) ≡ Some w = grind (arith, nat_tests, c.if-is_ascii_digit.true, c.is_ascii_digit.ensures) in
    let sum = value_more decimal_table s len w c.loop-len-test.true digit in
    let number = appended _ _ _ (sym c.in_ok-number.was ∙ c.append_digit.ensures) in
    record {
      within = omega (arith, c.loop-len-test.true);
      digits = run_more decimal_table s len w c.loop-len-test.true digit c.loop-len.invariant.digits;
      number = omega (arith, c.loop-len.invariant.number, sum, number.0);
      bound = omega (arith, number.0, number.1);
    }

pub returns-else-len-eq0-clause-some : goal.returns-else-len-eq0-clause-some
returns-else-len-eq0-clause-some c =
    let s = c.args.s.now in
    let len = c.loop-len.len in
    let ends : run_len decimal_table s ≡ len =
    elim c.loop-len-test.branch [
      | goal.then-loop-len-test+else-is_ascii_digit w ↦
          run_ends decimal_table s len w.loop-len-test.true
          (grind (arith, nat_tests, w.if-is_ascii_digit.false, w.is_ascii_digit.ensures)) c.loop-len.invariant.digits
      | goal.else-loop-len-test w ↦
          let none = prefix_len-drop_all (is_digit decimal_table) s len (omega (arith, w.loop-len-test.false)) in
          omega (arith, c.loop-len.invariant.digits, none)
    ] in
    (omega (arith, c.if-len-eq0.false), sym ends, rw ends c.loop-len.invariant.number, c.loop-len.invariant.bound)
