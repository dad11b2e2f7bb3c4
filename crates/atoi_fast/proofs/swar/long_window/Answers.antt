-- One word, or two of which the first is full, give the window.
use Rattle.std.proofs.Common.{◌≡◌, refl, sym, ◌∙◌, arith}
use Rattle.std.proofs.lemmas.Bool.Decides.{nat_tests}
use Rattle.std.proofs.lemmas.List.{take_rest}
use Rattle.atoi_core.specs.Digit.{decimal_table}
use Rattle.atoi_core.specs.Run.{run_len}
use Rattle.atoi_core.specs.Words.{low_bytes}
use Rattle.atoi_core.proofs.lemmas.LoadedWords.{sum_of_none}
use Rattle.atoi_core.proofs.lemmas.WordWindows.{window_joined, window_short}
use Rattle.atoi_fast.proofs.swar.long_window.Goals as goal

pub returns-then-len-eq0 : goal.returns-then-len-eq0
returns-then-len-eq0 c =
    rw c.not_full.ensures
    (window_short c.args.s.now (λ i. (c.type_inv.s i).fits) _ c.load_full-first.ensures 0 _
    (sym c.if-len-eq0.true ∙ c.leading_digits-len.ensures.len) (omega arith) (sum_of_none _ 0 refl))

pub returns-then-len-ne8 : goal.returns-then-len-ne8
returns-then-len-ne8 c =
    rw c.not_full-then-len-ne8.ensures
    (window_short c.args.s.now (λ i. (c.type_inv.s i).fits) _ c.load_full-first.ensures _ _
    c.leading_digits-len.ensures.len (omega arith) c.value_below_8.ensures.sum)

pub returns-then-more-ne8 : goal.returns-then-more-ne8
returns-then-more-ne8 c =
    rw (c.not_full-then-more-ne8.ensures, c.power_of_ten.ensures.power)
    (window_joined c.args.s.now (λ i. (c.type_inv.s i).fits) _ c.load_full-first.ensures
    c.load_full-next.result _ (rw take_rest at c.load_full-next.ensures)
    (omega arith) c.leading_digits-more.ensures.len _ _ _ (grind (arith, nat_tests)) c.value_of.ensures.sum
    c.value_below_8-then-more-ne8.ensures.sum)

pub returns : goal.returns
returns c =
    let next = c.load_full-next.result in
    let more : 8 ≡ run_len decimal_table (low_bytes 8 next) = omega (arith, c.leading_digits-more.ensures.len) in
    rw c.power_of_ten-2.ensures.power
    (window_joined c.args.s.now (λ i. (c.type_inv.s i).fits) _ c.load_full-first.ensures
    next 8 (rw take_rest at c.load_full-next.ensures) (omega arith) more
    _ _ _ c.zeroes_of_two.ensures c.value_of-2.ensures.sum c.value_of-3.ensures.sum)
