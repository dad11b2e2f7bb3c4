-- The value of digits, as one sum over their positions.
use Rattle.std.proofs.Common.{sym, ap, ap₂, ◌∙◌, arith, ◌≡◌, ℕ, zero, suc, ◌+◌, ◌-◌, ◌*◌, ◌^◌, List, [], ◌∷◌, length, slice_index, refl}
use Rattle.atoi_core.specs.Digit.{Table, digit_value}
use Rattle.atoi_core.specs.Run.{value}

-- f(0) + .. + f(n - 1).
abbrev pub sum_below : ℕ → (ℕ → ℕ) → ℕ
sum_below zero f = 0
sum_below (suc n) f = sum_below n f + f n

-- Each digit value times `10 ^ k`, if `k` digits follow it.
abbrev pub closed_value : Table → List ℕ → ℕ
closed_value table s = sum_below (length s) (λ i. digit_value table (slice_index s i) * 10 ^ (length s - 1 - i))

sum_below-equal : (n : ℕ) (f g : ℕ → ℕ) → ((i : ℕ) → f i ≡ g i) → sum_below n f ≡ sum_below n g
sum_below-equal zero f g same = refl
sum_below-equal (suc n) f g same = ap₂ (λ (x y : ℕ). x + y) (sum_below-equal n f g same) (same n)

sum_below-suc : (n : ℕ) (f : ℕ → ℕ) → sum_below (suc n) f ≡ f 0 + sum_below n (λ i. f (suc i))
sum_below-suc zero f = omega arith
sum_below-suc (suc n) f = omega (arith, sum_below-suc n f)

pub value_is_closed : (table : Table) (s : List ℕ) → value table s ≡ closed_value table s
value_is_closed table [] = refl
value_is_closed table (digit ∷ digits) =
    let term : ℕ → ℕ = λ i. digit_value table (slice_index (digit ∷ digits) i) * 10 ^ (suc (length digits) - 1 - i) in
    let rest : ℕ → ℕ = λ i. digit_value table (slice_index digits i) * 10 ^ (length digits - 1 - i) in
    let next : (i : ℕ) → rest i ≡ term (suc i) = λ i. ap (λ (k : ℕ). digit_value table (slice_index digits i) * 10 ^ k) (omega arith) in
    let first : length digits ≡ suc (length digits) - 1 - 0 = omega arith in
    ap (λ (k : ℕ). digit_value table digit * 10 ^ k + value table digits) first
    ∙ ap (λ (k : ℕ). term 0 + k) (value_is_closed table digits ∙ sum_below-equal (length digits) rest (λ i. term (suc i)) next)
    ∙ sym (sum_below-suc (length digits) term)
