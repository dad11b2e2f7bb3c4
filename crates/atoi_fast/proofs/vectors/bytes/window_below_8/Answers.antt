-- The zeros before the slice count as digits.
use Rattle.std.proofs.Common.{◌≡◌, ◌∙◌, ap, refl, sym, arith, bit_xor}
use Rattle.atoi_core.specs.Digit.{decimal_table}
use Rattle.atoi_core.specs.Run.{run_len}
use Rattle.atoi_core.specs.Words.{low_bytes}
use Rattle.atoi_core.proofs.lemmas.WordFields.{repeated}
use Rattle.atoi_fast.proofs.lemmas.ShortLanes.{flipped_half}
use Rattle.atoi_fast.proofs.lemmas.WordRuns.{flipped_back}
use Rattle.atoi_fast.proofs.lemmas.WordWindows.{filled_window}
use Rattle.atoi_fast.proofs.vectors.bytes.window_below_8.Goals as goal

pub value_of_half-requires : goal.value_of_half-requires
value_of_half-requires c =
    let full : 8 ≡ run_len decimal_table (low_bytes 8 (bit_xor c.load_flipped-flipped.result (repeated 48 8))) =
    sym c.if-digits-eq8.true ∙ c.leading_digits_flipped-digits.ensures.len in
    (flipped_half _ _ c.load_flipped-flipped.type_inv (sym full) c.half.ensures).1

pub returns-then-digits-eq8 : goal.returns-then-digits-eq8
returns-then-digits-eq8 c =
    let full : 8 ≡ run_len decimal_table (low_bytes 8 (bit_xor c.load_flipped-flipped.result (repeated 48 8))) =
    sym c.if-digits-eq8.true ∙ c.leading_digits_flipped-digits.ensures.len in
    c.not_full.ensures
    ∙ filled_window c.args.s.now (omega arith) (λ i. (c.type_inv.s i).fits) _ 8 _ _
    (ap (λ x. bit_xor x (repeated 48 8)) c.load_flipped-flipped.ensures ∙ flipped_back _ _) full (omega arith)
    (c.value_of_half.ensures ∙ (flipped_half _ _ c.load_flipped-flipped.type_inv (sym full) c.half.ensures).0)

pub returns : goal.returns
returns c =
    c.not_full-2.ensures
    ∙ filled_window c.args.s.now (omega arith) (λ i. (c.type_inv.s i).fits) _ _ _ _
    (ap (λ x. bit_xor x (repeated 48 8)) c.load_flipped-flipped.ensures ∙ flipped_back _ _)
    c.leading_digits_flipped-digits.ensures.len refl c.value_by_half.ensures
