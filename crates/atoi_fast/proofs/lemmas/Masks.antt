-- A mask of the lanes that fail a test counts the leading ones that pass.
use Rattle.std.proofs.Common.{◌≡◌, ℕ, ◌<◌, Bool, true, false, List, map, length, w16, not, refl, sym, ap, ◌∙◌, arith}
use Rattle.std.specs.Int.{trailing_zeros}
use Rattle.std.specs.List.{prefix_len}
use Rattle.std.proofs.lemmas.Simd.{leading_from_mask_l, trailing_mask_l}
use lib.Lanes.{mask_l}

not-not : (b : Bool) → not (not b) ≡ b
not-not true = refl
not-not false = refl

pub run-of_others : (q : ℕ → Bool) (v : List ℕ) → length v ≡ 16 → (mask : ℕ) → mask ≡ mask_l (map (λ x. not (q x)) v)
    → (mask ≡ 0 → prefix_len q v ≡ 16) × (0 < mask → trailing_zeros w16 mask ≡ prefix_len q v)
run-of_others q v long mask is =
    let other = λ (x : ℕ). not (q x) in
    let same : prefix_len (λ x. not (other x)) v ≡ prefix_len q v = λ i. prefix_len (λ x. not-not (q x) i) v in (
      λ none. sym same ∙ leading_from_mask_l other v (sym is ∙ none) ∙ long,
      λ some. ap (trailing_zeros w16) is ∙ trailing_mask_l other 16 v (omega arith) (omega (arith, is)) ∙ same,
    )
