-- The separator ends the digits.
use Rattle.std.proofs.Common.{◌≡◌, ◌<◌, true, false, get_or, arith}
use Rattle.std.proofs.lemmas.List.Sums.{prefix_len_passes}
use Rattle.atoi_core.specs.Digit.{decimal_table, is_digit}
use Rattle.atoi_core.specs.Run.{run_len}
use Rattle.atoi_fast.proofs.lemmas.ShortNumbers.{sixteen_fit, prefix_is}
use Rattle.atoi_fast.proofs.quick.quick_field.Goals as goal

pub returns-in_ok-number-in-Some-clause-number : goal.returns-in_ok-number-in-Some-clause-number
returns-in_ok-number-in-Some-clause-number g c no_digit skip plus =
    let s = c.args.s.now in
    let len = c.in-Some.len in
    let int = g.T.Number.int_type in
    let found = c.in-Some.ensures in
    let goes_on : len < run_len decimal_table s → is_digit decimal_table (get_or s len 0) ≡ true =
    prefix_len_passes (is_digit decimal_table) s len 0 in
    let ends : len ≡ run_len decimal_table s = grind (arith, goes_on, found.digits, found.separator, no_digit) in
    rw c.in_ok-number-in-Some.ensures.number
    (prefix_is int false s len c.in-Some.magnitude (λ no. absurd (cc no)) (omega (arith, found.few))
    (omega (arith, found.few, sixteen_fit int)) ends found.value c.in_ok-number-in-Some.ensures.in_range skip plus)
