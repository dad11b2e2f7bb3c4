-- The window follows from the word that is filled with zeros.
use Rattle.std.proofs.Common.{◌≡◌, ◌∙◌, ap, refl, sym, arith, bit_xor}
use Rattle.atoi_core.specs.Digit.{decimal_table}
use Rattle.atoi_core.specs.Run.{run_len}
use Rattle.atoi_core.specs.Words.{low_bytes}
use Rattle.atoi_core.proofs.lemmas.WordFields.{repeated}
use Rattle.atoi_fast.proofs.lemmas.WordRuns.{flipped_back, flipped_lowered, lowered_eight}
use Rattle.atoi_fast.proofs.lemmas.WordWindows.{few_in_both, filled_window}
use Rattle.atoi_fast.proofs.swar.window_up_to_8.Goals as goal

pub sum_of-requires : goal.sum_of-requires
sum_of-requires c =
    let full : 8 ≡ run_len decimal_table (low_bytes 8 (bit_xor c.load_flipped-flipped.result (repeated 48 8))) =
    sym c.if-digits-eq8.true ∙ c.leading_digits_flipped-digits.ensures.len in
    (lowered_eight _ _ (sym full) (flipped_lowered _ c.load_flipped-flipped.type_inv (sym full))).0

pub returns-then-digits-eq8-clause-of_16 : goal.returns-then-digits-eq8-clause-of_16
returns-then-digits-eq8-clause-of_16 c =
    let full : 8 ≡ run_len decimal_table (low_bytes 8 (bit_xor c.load_flipped-flipped.result (repeated 48 8))) =
    sym c.if-digits-eq8.true ∙ c.leading_digits_flipped-digits.ensures.len in
    filled_window c.args.s.now c.requires (λ i. (c.type_inv.s i).fits) _ 8 _ _
    (ap (λ x. bit_xor x (repeated 48 8)) c.load_flipped-flipped.ensures ∙ flipped_back _ _) full (omega arith)
    (c.sum_of.ensures.sum ∙ (lowered_eight _ _ (sym full) (flipped_lowered _ c.load_flipped-flipped.type_inv (sym full))).1)

pub returns-then-digits-eq8-clause-of_8 : goal.returns-then-digits-eq8-clause-of_8
returns-then-digits-eq8-clause-of_8 c = λ fewer. returns-then-digits-eq8-clause-of_16 c ∙ few_in_both c.args.s.now fewer

pub returns-else-digits-eq8-clause-of_16 : goal.returns-else-digits-eq8-clause-of_16
returns-else-digits-eq8-clause-of_16 c =
    filled_window c.args.s.now c.requires (λ i. (c.type_inv.s i).fits) _ _ _ _
    (ap (λ x. bit_xor x (repeated 48 8)) c.load_flipped-flipped.ensures ∙ flipped_back _ _)
    c.leading_digits_flipped-digits.ensures.len refl c.value_in_word.ensures.sum

pub returns-else-digits-eq8-clause-of_8 : goal.returns-else-digits-eq8-clause-of_8
returns-else-digits-eq8-clause-of_8 c = λ fewer. returns-else-digits-eq8-clause-of_16 c ∙ few_in_both c.args.s.now fewer
