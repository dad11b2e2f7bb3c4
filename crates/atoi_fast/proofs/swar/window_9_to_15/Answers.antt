-- The first word, or both, give the window.
use Rattle.std.proofs.Common.{◌≡◌, refl, arith}
use Rattle.atoi_core.specs.Digit.{decimal_table}
use Rattle.atoi_core.specs.Run.{run_len}
use Rattle.atoi_core.specs.Words.{low_bytes}
use Rattle.atoi_core.proofs.lemmas.WordWindows.{window_short}
use Rattle.atoi_fast.proofs.lemmas.WordWindows.{run_of_ends, window_of_ends}
use Rattle.atoi_fast.proofs.swar.window_9_to_15.Goals as goal

pub returns-then-len-ne8 : goal.returns-then-len-ne8
returns-then-len-ne8 c =
    rw c.not_full.ensures
    (window_short c.args.s.now (λ i. (c.type_inv.s i).fits) _ c.load_full-first.ensures _ _
    c.leading_digits-len.ensures.len (omega arith) c.value_below_8.ensures.sum)

pub value_of-requires-else-more-eq8-clause-some : goal.value_of-requires-else-more-eq8-clause-some
value_of-requires-else-more-eq8-clause-some c =
    let r = c.requires in
    let run = run_of_ends c.args.s.now r.enough r.few (λ i. (c.type_inv.s i).fits) _ _
    c.load_full-first.ensures c.load_last-last.ensures (omega arith) in
    omega (arith, run)

pub returns-then-more-eq8 : goal.returns-then-more-eq8
returns-then-more-eq8 c =
    let r = c.requires in
    let more : 8 ≡ run_len decimal_table (low_bytes 8 c.load_last-last.result) = omega (arith, c.leading_digits-more.ensures.len) in
    rw (c.not_full-then-more-eq8.ensures, c.power_of_ten.ensures.power)
    (window_of_ends c.args.s.now r.enough r.few (λ i. (c.type_inv.s i).fits) _ _
    c.load_full-first.ensures c.load_last-last.ensures (omega arith)
    _ 8 _ _ more (omega arith) c.value_of-high.ensures.sum c.value_of.ensures.sum)

pub returns-else-more-eq8 : goal.returns-else-more-eq8
returns-else-more-eq8 c =
    let r = c.requires in
    rw (c.not_full-else-more-eq8.ensures, c.power_of_ten-else-more-eq8.ensures.power)
    (window_of_ends c.args.s.now r.enough r.few (λ i. (c.type_inv.s i).fits) _ _
    c.load_full-first.ensures c.load_last-last.ensures (omega arith)
    _ _ _ _ c.leading_digits-more.ensures.len refl c.value_of-high.ensures.sum c.value_of-else-more-eq8.ensures.sum)
