-- Digits and zeros counted in the masks of comparisons.
use Rattle.std.proofs.Common.{◌≡◌, ℕ, ◌%◌, ◌^◌, cond, List, map, length, replicate, leb, eqb, bit_and, Fits, w8, w64, ◌≤◌, refl, arith}
use Rattle.std.specs.Int.{trailing_ones}
use Rattle.std.proofs.lemmas.Simd.{zip2_of_maps, zip2_splat, zip2_splat_left}
use Rattle.atoi_core.specs.Digit.{decimal_table, is_digit, is_zero}
use Rattle.atoi_core.specs.Run.{run_len, zeros}
use Rattle.atoi_core.proofs.lemmas.LaneMasks.{ones-of_lanes}
use lib.Lanes.{Each1, mask_l, top, zip2}

-- A lane of a comparison: all bits set if `a` is at most `b`, otherwise 0.
abbrev at_most : ℕ → ℕ → ℕ
at_most a b = cond (leb a b) 255 0

abbrev equal : ℕ → ℕ → ℕ
equal a b = cond (eqb a b) 255 0

-- Digits are counted by two comparisons, zeros by one.
module _ (n : ℕ) (v : List ℕ) (few : n ≤ 63) (long : length v ≡ n) (fits : Each1 (Fits w8) v) where
  pub digits_counted : trailing_ones w64 (mask_l (map (top 7)
      (zip2 bit_and (zip2 at_most (replicate n 48) v) (zip2 at_most v (replicate n 57)))) % 2 ^ 64)
      ≡ run_len decimal_table v
  digits_counted =
      ones-of_lanes (is_digit decimal_table) v (omega (arith, long)) _ _ fits
      (zip2_of_maps bit_and _ _ v (zip2_splat_left at_most 48 n v long) (zip2_splat at_most v n 57 long)) refl

  pub zeros_counted : trailing_ones w64 (mask_l (map (top 7) (zip2 equal v (replicate n 48))) % 2 ^ 64) ≡ zeros decimal_table v
  zeros_counted = ones-of_lanes (is_zero decimal_table) v (omega (arith, long)) _ _ fits (zip2_splat equal v n 48 long) refl
