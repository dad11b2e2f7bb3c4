-- The sum of digit values, each times the worth of its place, is the number that the digits spell.
use Rattle.std.proofs.Common.{◌≡◌, ℕ, zero, suc, ◌+◌, ◌-◌, ◌*◌, ◌%◌, ◌^◌, ◌<◌, ◌≤◌, true, List, [], ◌∷◌, ◌++◌, map, length, take, drop, get_or, replicate, refl, sym, ap, ap₂, subst, ◌∙◌, arith, rules, zero-add}
use Rattle.std.specs.List.{range_with_len}
use Rattle.std.proofs.Math.Nat.{pow-le-pow_right, mul-zero, mod-eq_of_lt}
use Rattle.std.proofs.lemmas.Bool.Decides.{nat_tests}
use Rattle.std.proofs.lemmas.List.{length-take-le}
use Rattle.std.proofs.lemmas.List.FromFn.{get_or-range_with_len, length-range_with_len}
use Rattle.std.proofs.lemmas.List.Sums.{prefix_len-le-length}
use Rattle.std.proofs.lemmas.Simd.{Each1-get_or, map-map, zip2_splat}
use Rattle.atoi_core.specs.Digit.{decimal_table, is_digit, digit_value}
use Rattle.atoi_core.specs.Run.{run_len, value}
use Rattle.atoi_core.proofs.lemmas.Runs.{decimal_below_ten, value-below}
use Rattle.atoi_lanes.specs.declared.kernels.TheConstants.{PLACE_VALUES}
use lib.Lanes.{fold_l, sum_l, products, zip2}

-- A byte less 48, which wraps.
abbrev above_zero : ℕ → ℕ
above_zero x = (x + (2 ^ 8 - 48)) % 2 ^ 8

above_zero-digit : (x : ℕ) → is_digit decimal_table x ≡ true → above_zero x ≡ digit_value decimal_table x
above_zero-digit x h = grind (arith, nat_tests)

-- The values of n decimal places, the highest first.
abbrev place_values : ℕ → List ℕ
place_values zero = []
place_values (suc n) = 10 ^ n ∷ place_values n

-- The entries of the table from `16 - n` on.
abbrev Row : ℕ → Type 0
Row n = take 16 (take (32 - (16 - n)) (drop (16 - n) PLACE_VALUES)) ≡ place_values n ++ replicate (16 - n) 0

row : (n : ℕ) → n ≤ 16 → Row n
row n le =
    let entry : get_or (range_with_len 0 17) n 0 ≡ n = get_or-range_with_len 0 17 n 0 (omega arith) ∙ omega arith in
    subst Row entry (Each1-get_or Row (range_with_len 0 17) n 0 (omega (arith, length-range_with_len 0 17)) (search rules))

sum-zeros : (xs : List ℕ) (n : ℕ) → sum_l (products xs (replicate n 0)) ≡ 0
sum-zeros [] n = refl
sum-zeros (x ∷ xs) zero = refl
sum-zeros (x ∷ xs) (suc n) = omega (arith, sum-zeros xs n, mul-zero x)

-- The first n lanes spell their value; the others are multiplied by 0.
sum-value : (n k : ℕ) (v : List ℕ) → n ≤ run_len decimal_table v
    → sum_l (products (map above_zero v) (place_values n ++ replicate k 0)) ≡ value decimal_table (take n v)
sum-value zero k v h = sum-zeros (map above_zero v) k
sum-value (suc n) k [] h = absurd (omega arith)
sum-value (suc n) k (x ∷ xs) h =
    let digit : is_digit decimal_table x ≡ true = grind (arith, nat_tests) in
    let more : n ≤ run_len decimal_table xs = grind (arith, nat_tests) in
    let count : length (take n xs) ≡ n = length-take-le n xs (omega (arith, more, prefix_len-le-length (is_digit decimal_table) xs)) in
    ap₂ (λ a b. a + b) (ap₂ (λ w m. w * 10 ^ m) (above_zero-digit x digit) (sym count)) (sum-value n k xs more)

-- Products and a sum modulo m are exact if the exact sum is below m.
no_wrap : (m a : ℕ) (xs ys : List ℕ) → a + sum_l (products xs ys) < m
    → fold_l (λ s x. (s + x) % m) a (zip2 (λ x y. (x * y) % m) xs ys) ≡ a + sum_l (products xs ys)
no_wrap m a [] ys h = omega arith
no_wrap m a (x ∷ xs) [] h = omega arith
no_wrap m a (x ∷ xs) (y ∷ ys) h =
    let product : (x * y) % m ≡ x * y = mod-eq_of_lt (omega arith) in
    let sum : (a + x * y) % m ≡ a + x * y = mod-eq_of_lt (omega arith) in
    rw (product, sum) (no_wrap m (a + x * y) xs ys (omega arith) ∙ omega arith)

pub lanes_sum : (v : List ℕ) (n : ℕ) → length v ≡ 16 → n ≤ 16 → n ≤ run_len decimal_table v
    → fold_l (λ s x. (s + x) % 2 ^ 64) 0
    (zip2 (λ x y. (x * y) % 2 ^ 64) (map (λ x. x) (zip2 (λ x y. (x + (2 ^ 8 - y)) % 2 ^ 8) v (replicate 16 48)))
    (take 16 (take (32 - (16 - n)) (drop (16 - n) PLACE_VALUES))))
    ≡ value decimal_table (take n v)
lanes_sum v n long few digits =
    let lanes = ap (map (λ x. x)) (zip2_splat (λ x y. (x + (2 ^ 8 - y)) % 2 ^ 8) v 16 48 long) ∙ map-map (λ x. x) above_zero v in
    let exact = sum-value n (16 - n) v digits in
    let count : length (take n v) ≤ 16 = omega (arith, length-take-le n v (omega arith)) in
    let power : 10 ^ length (take n v) ≤ 10 ^ 16 = pow-le-pow_right (omega arith) count in
    ap₂ (λ xs ys. fold_l (λ s x. (s + x) % 2 ^ 64) 0 (zip2 (λ x y. (x * y) % 2 ^ 64) xs ys)) lanes (row n few)
    ∙ no_wrap (2 ^ 64) 0 (map above_zero v) (place_values n ++ replicate (16 - n) 0)
    (omega (arith, exact, value-below decimal_table decimal_below_ten (take n v), power))
    ∙ zero-add _ ∙ exact
