use Rattle.std.proofs.Common.{ℕ, leb, cond, not, bit_or, w16, map, ◌+◌, ◌-◌, ◌%◌, ◌^◌, refl, arith}
use Rattle.std.proofs.lemmas.List.{length-map}
use Rattle.std.proofs.lemmas.Simd.{mask_l-lt, splat_is_map, zip2_of_maps, zip2_splat}
use Rattle.std.proofs.lemmas.Nat.Bits.{bit_at-trailing_zeros}
use Rattle.atoi_core.specs.Digit.{decimal_table, is_digit}
use Rattle.atoi_core.proofs.lemmas.LaneMasks.{mask-of_lanes}
use Rattle.atoi_fast.proofs.lemmas.Masks.{run-of_others}
use Rattle.atoi_fast.proofs.vectors.bytes.non_digits.Goals as goal

-- A lane of a comparison: all bits set if `a` is at most `b`, otherwise 0.
abbrev mask : (ℕ → ℕ → ℕ)
mask a b = cond (leb a b) 255 0

abbrev plus : (ℕ → ℕ → ℕ)
plus a b = (a + b) % 256

pub returns-clause-mask : goal.returns-clause-mask
returns-clause-mask c =
    let v = c.args.v in
    let sixteen = c.fits-v.0 in
    let values = zip2_splat (λ x y. (x + (2 ^ 8 - y)) % 2 ^ 8) v 16 48 sixteen in
    let sums = zip2_of_maps plus _ _ v values (splat_is_map v 16 118 sixteen) in
    let marks = zip2_of_maps bit_or _ _ v sums values in
    mask-of_lanes (λ byte. not (is_digit decimal_table byte)) v (omega arith) _ _ c.fits-v.1
    (zip2_of_maps mask _ _ v (splat_is_map v 16 128 sixteen) marks) refl

pub overflow_cast-result : goal.overflow_cast-result
overflow_cast-result c =
    let bits = rw (length-map c.args.v, c.fits-v.0) at (mask_l-lt (map (λ byte. not (is_digit decimal_table byte)) c.args.v)) in
    record { fits = omega (arith, returns-clause-mask c, bits) }

pub returns-clause-none : goal.returns-clause-none
returns-clause-none c = (run-of_others (is_digit decimal_table) c.args.v c.fits-v.0 _ (returns-clause-mask c)).0

pub returns-clause-some : goal.returns-clause-some
returns-clause-some c = (run-of_others (is_digit decimal_table) c.args.v c.fits-v.0 _ (returns-clause-mask c)).1

pub returns-clause-fewer : goal.returns-clause-fewer
returns-clause-fewer c some =
    omega (arith, returns-clause-some c some, (bit_at-trailing_zeros w16 _ some (overflow_cast-result c).fits).0)
