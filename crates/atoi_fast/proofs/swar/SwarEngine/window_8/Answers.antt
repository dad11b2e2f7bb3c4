-- The window of the word is the window of its bytes.
use Rattle.std.proofs.Common.{◌≡◌, ◌==◌, if◌then◌else◌, arith}
use Rattle.std.proofs.lemmas.Bool.Decides.{nat_tests}
use Rattle.atoi_core.specs.Digit.{decimal_table}
use Rattle.atoi_core.specs.Run.{zeros}
use Rattle.atoi_core.specs.Words.{low_bytes}
use Rattle.atoi_core.proofs.lemmas.WordWindows.{loaded_window}
use Rattle.atoi_fast.proofs.swar.SwarEngine.window_8.Goals as goal

pub returns-then-len-ne8-clause-window : goal.returns-then-len-ne8-clause-window
returns-then-len-ne8-clause-window c =
    let few : 0 ≡ (if c.leading_digits-len.result == 8 then zeros decimal_table (low_bytes 8 c.load_full-word.result) else 0) =
    grind (arith, nat_tests) in
    rw c.not_full.ensures
    (loaded_window c.args.s.now (λ i. (c.type_inv.s i).fits) _ _ c.load_full-word.ensures
    c.leading_digits-len.ensures.len few c.value_below_8.ensures.sum)

pub returns-clause-window : goal.returns-clause-window
returns-clause-window c =
    let full : c.zeroes_of.result
    ≡ (if c.leading_digits-len.result == 8 then zeros decimal_table (low_bytes 8 c.load_full-word.result) else 0) =
    grind (arith, nat_tests, c.zeroes_of.ensures.zeroes) in
    loaded_window c.args.s.now (λ i. (c.type_inv.s i).fits) _ _ c.load_full-word.ensures
    c.leading_digits-len.ensures.len full c.value_of.ensures.sum
