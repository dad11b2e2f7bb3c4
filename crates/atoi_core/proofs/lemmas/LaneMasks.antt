-- A mask counts the leading lanes that pass a test.
use Rattle.std.proofs.Common.{◌≡◌, ℕ, ◌+◌, ◌%◌, ◌^◌, ◌<◌, Bool, true, false, cond, List, [], ◌∷◌, map, length, get_or, Fits, w8, w64, inl, inr, ◌≤◌, refl, sym, ap, ap₂, ◌∙◌, arith}
use Rattle.std.specs.Int.{bit_at, trailing_ones}
use Rattle.std.specs.List.{prefix_len}
use Rattle.std.proofs.Math.Nat.{pow-le-pow_right}
use Rattle.std.proofs.lemmas.Bool.{agree_below, agree_below_at, cases_lt}
use Rattle.std.proofs.lemmas.Bool.Decides.{nat_tests}
use Rattle.std.proofs.lemmas.List.{get_or-map, get_or_past, length-map}
use Rattle.std.proofs.lemmas.List.Sums.{prefix_len_is}
use Rattle.std.proofs.lemmas.Nat.Bits.{bit_at-trailing_ones}
use Rattle.std.proofs.lemmas.Simd.{bit_mask_l, map-map, mask_l-lt, mask_l-mod}
use lib.Lanes.{Each1, mask_l, top}

map-agree : (p q : ℕ → Bool) → agree_below p q 256 ≡ true → (xs : List ℕ) → Each1 (Fits w8) xs → map p xs ≡ map q xs
map-agree p q all [] fits = refl
map-agree p q all (x ∷ xs) fits = ap₂ (λ b bs. b ∷ bs) (agree_below_at p q 256 x all fits.0.fits) (map-agree p q all xs fits.1)

module _ (q : ℕ → Bool) (v : List ℕ) (few : length v ≤ 63) where
  -- A top bit set exactly where x passes makes this mask.
  pub mask-of_lanes : (f : ℕ → ℕ) (z : List ℕ) → Each1 (Fits w8) v → z ≡ map f v → agree_below (λ x. top 7 (f x)) q 256 ≡ true
      → mask_l (map (top 7) z) % 2 ^ 64 ≡ mask_l (map q v)
  mask-of_lanes f z fits lanes all =
      let set = λ (x : ℕ). top 7 (f x) in
      ap (λ l. mask_l l % 2 ^ 64) (ap (map (top 7)) lanes ∙ map-map (top 7) f v)
      ∙ mask_l-mod (map set v) 64 (omega (arith, length-map v set)) ∙ ap mask_l (map-agree set q all v fits)

  pub ones-of_mask : (mask : ℕ) → mask ≡ mask_l (map q v) → trailing_ones w64 mask ≡ prefix_len q v
  ones-of_mask mask is =
      let power : 2 ^ length v ≤ 2 ^ 63 = pow-le-pow_right {n = 2} (omega arith) few in
      let small : mask + 1 < 2 ^ 64 = omega (arith, is, power, rw length-map at (mask_l-lt (map q v))) in
      let found = bit_at-trailing_ones w64 mask small in
      let bit : (i : ℕ) → bit_at mask i ≡ cond (get_or (map q v) i false) 1 0 = λ i. ap (λ m. bit_at m i) is ∙ bit_mask_l (map q v) i in
      let most : trailing_ones w64 mask ≤ length v =
      elim (cases_lt (length v) (trailing_ones w64 mask)) [
        | inl more ↦ absurd (grind (
          arith,
          nat_tests,
          found.2 (length v) more,
          bit (length v),
          get_or_past (map q v) (length v) false (omega (arith, length-map v q)),
        ))
        | inr few ↦ few
      ] in
      sym (prefix_len_is q v (trailing_ones w64 mask) 0 most
      (λ k lt. sym (get_or-map q v k 0 false (omega (arith, most))) ∙ grind (arith, nat_tests, bit k, found.2 k lt))
      (λ short. sym (get_or-map q v (trailing_ones w64 mask) 0 false short)
      ∙ grind (arith, nat_tests, bit (trailing_ones w64 mask), found.1)))

  pub ones-of_lanes : (f : ℕ → ℕ) (z : List ℕ) → Each1 (Fits w8) v → z ≡ map f v → agree_below (λ x. top 7 (f x)) q 256 ≡ true
      → trailing_ones w64 (mask_l (map (top 7) z) % 2 ^ 64) ≡ prefix_len q v
  ones-of_lanes f z fits lanes all = ones-of_mask _ (mask-of_lanes f z fits lanes all)
