-- The word of the first eight bytes spells a run that ends in them.
use Rattle.std.proofs.Common.{◌≡◌, ◌<◌, take, ap, ◌∙◌, arith}
use Rattle.std.specs.Int.{trailing_zeros, w16}
use Rattle.std.proofs.lemmas.List.Sums.{prefix_len-le-length}
use Rattle.atoi_core.specs.Digit.{decimal_table, is_digit}
use Rattle.atoi_core.specs.Run.{run_len, value}
use Rattle.atoi_core.proofs.lemmas.LoadedWords.{loaded_part}
use Rattle.atoi_core.proofs.lemmas.Runs.{prefix_len-take}
use Rattle.atoi_core.proofs.lemmas.WordWindows.{window_ended}
use Rattle.atoi_fast.proofs.lemmas.LaneWindows.{few_counted, first_lanes}
use Rattle.atoi_core.proofs.lemmas.LaneWindows.{digits_shown}
use Rattle.atoi_fast.proofs.vectors.long_window.Goals as goal

pub returns : goal.returns
returns c =
    let s = c.args.s.now in
    let lanes = c.load_lanes-lanes.ensures in
    let len = trailing_zeros w16 c.non_digits-mask.result in
    let shown = c.non_digits-mask.ensures.some (omega arith) ∙ ap (run_len decimal_table) lanes in
    let few : len < 16 = omega (arith, c.non_digits-mask.ensures.some (omega arith), c.non_digits-mask.ensures.fewer (omega arith)) in
    let run : len ≡ run_len decimal_table s = omega (arith, shown, few, digits_shown 16 s, prefix_len-take (is_digit decimal_table) 16 s) in
    let number : c.if-len-le8.number ≡ value decimal_table (take len s) =
    elim c.if-len-le8.branch [
      | goal.then-len-le8 w ↦
          w.number-is ∙ w.value_in_word-number.ensures.sum
          ∙ loaded_part 8 s (λ i. (c.type_inv.s i).fits) _ w.load_full.ensures len
          (omega (arith, shown, w.if-len-le8, few_counted s (λ i. (c.type_inv.s i).fits) _ w.load_full.ensures))
      | goal.else-len-le8 w ↦
          w.number-is ∙ w.sum_lanes-number.ensures
          ∙ ap (λ l. value decimal_table (take len l)) lanes
          ∙ ap (value decimal_table)
          (first_lanes len s (omega (arith, few)) (omega (arith, run, prefix_len-le-length (is_digit decimal_table) s)))
    ] in
    c.not_full.ensures ∙ window_ended s len c.if-len-le8.number run few number
