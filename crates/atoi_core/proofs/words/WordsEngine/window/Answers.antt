-- A word that is not full determines the window, or two words do.
use Rattle.std.proofs.Common.{arith, rules}
use Rattle.std.proofs.lemmas.Bool.Decides.{nat_tests}
use Rattle.std.proofs.lemmas.List.{take_rest}
use Rattle.atoi_core.proofs.lemmas.WordWindows.{enough_bytes, window_short, window_joined, window_of_16}
use Rattle.atoi_core.proofs.words.WordsEngine.window.Goals as goal

pub returns-then-len-lt8-clause-window : goal.returns-then-len-lt8-clause-window
returns-then-len-lt8-clause-window c = rw c.not_full.ensures (search (rules, window_short c.args.s.now (λ i. (c.type_inv.s i).fits)))

pub slice_bounds-load_8-start : goal.slice_bounds-load_8-start
slice_bounds-load_8-start c =
    enough_bytes c.args.s.now (λ i. (c.type_inv.s i).fits) c.load_8-first.result c.load_8-first.ensures (omega arith)

pub slice_bounds-load_8-count : goal.slice_bounds-load_8-count
slice_bounds-load_8-count c = slice_bounds-load_8-start c

pub returns-then-more-lt8-clause-window : goal.returns-then-more-lt8-clause-window
returns-then-more-lt8-clause-window c =
    rw (c.not_full-then-more-lt8.ensures, c.power_of_ten.ensures.power)
    (window_joined c.args.s.now (λ i. (c.type_inv.s i).fits) c.load_8-first.result c.load_8-first.ensures
    c.load_8-next.result c.check_len_8-more.result (rw take_rest at c.load_8-next.ensures) (omega arith)
    c.check_len_8-more.ensures.len _ _ _ (grind (arith, nat_tests)) c.process_8.ensures.sum c.value_8-then-more-lt8.ensures.sum)

pub returns-clause-window : goal.returns-clause-window
returns-clause-window c =
    window_of_16 c.args.s.now (λ i. (c.type_inv.s i).fits) c.load_8-first.result c.load_8-first.ensures c.load_8-next.result 8
    (rw take_rest at c.load_8-next.ensures) (omega arith) (omega (arith, c.check_len_8-more.ensures.len))
    c.load_8-first.type_inv c.load_8-next.type_inv _ _ (rw (c.from.ensures, c.from-2.ensures) at c.len_zeroes_128.ensures.zeroes)
    (rw (c.from.ensures, c.from-2.ensures) at c.process_16.ensures.sum)
