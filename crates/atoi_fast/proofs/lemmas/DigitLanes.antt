-- The digit values of lanes that hold digits.
use Rattle.std.proofs.Common.{◌≡◌, ℕ, zero, suc, ◌+◌, ◌-◌, ◌*◌, ◌%◌, ◌^◌, ◌<◌, ◌≤◌, true, List, [], ◌∷◌, ◌++◌, map, length, take, drop, replicate, refl, sym, ap, ap₂, subst, ◌∙◌, arith, rules, lit<, bit_and}
use Rattle.std.proofs.lemmas.Bool.Decides.{nat_tests}
use Rattle.std.proofs.lemmas.List.{length-drop, length-map, length-take, take_all}
use Rattle.std.proofs.lemmas.Nat.{and_mask}
use Rattle.std.proofs.lemmas.Simd.{Each1-replicate, zip2_splat}
use Rattle.atoi_core.specs.Digit.{decimal_table, is_digit, digit_value}
use Rattle.atoi_core.specs.Run.{run_len, value}
use Rattle.atoi_core.proofs.lemmas.Runs.{prefix_len-drop, value-replicate}
use Rattle.atoi_core.proofs.lemmas.LoweredWords.{first_passes}
use Rattle.atoi_fast.specs.Vectors.{itself, padded}
use Rattle.atoi_fast.proofs.lemmas.Shuffles.{each_from, first_at_end}
use lib.Lanes.{Each1, zip2}

-- A byte minus another, which wraps.
abbrev pub less : ℕ → ℕ → ℕ
less x y = (x + (2 ^ 8 - y)) % 2 ^ 8

abbrev pub above_zero : ℕ → ℕ
above_zero x = less x 48

above_zero-digit : (x : ℕ) → is_digit decimal_table x ≡ true → (above_zero x ≡ digit_value decimal_table x) × (above_zero x < 16)
above_zero-digit x h = (grind (arith, nat_tests), grind (arith, nat_tests))

-- n digits, less 48, are below ten and spell their value.
digits_value : (n : ℕ) (v : List ℕ) → n ≤ run_len decimal_table v
    → (value itself (take n (map above_zero v)) ≡ value decimal_table (take n v)) × Each1 (λ x. x < 16) (take n (map above_zero v))
digits_value zero v h = (refl, tt)
digits_value (suc n) [] h = (refl, tt)
digits_value (suc n) (x ∷ xs) h =
    let passes = first_passes (is_digit decimal_table x) n (run_len decimal_table xs) h in
    let count : length (take n (map above_zero xs)) ≡ length (take n xs) =
    omega (arith, length-take n (map above_zero xs), length-take n xs, length-map xs above_zero) in
    let first = above_zero-digit x passes.0 in
    let rest = digits_value n xs passes.1 in
    (ap₂ (λ a b. a + b) (ap₂ (λ w m. w * 10 ^ m) first.0 count) rest.0, (first.1, rest.1))

pub each-append : (P : ℕ → Type 0) (xs ys : List ℕ) → Each1 P xs → Each1 P ys → Each1 P (xs ++ ys)
each-append P [] ys h k = k
each-append P (x ∷ xs) ys h k = (h.0, each-append P xs ys h.1 k)

-- At the end of the lanes, the first n digits, less 48, spell their value.
pub end_values : (m n : ℕ) (s lanes : List ℕ) → n ≤ run_len decimal_table s → lanes ≡ replicate m 0 ++ take n (map above_zero s)
    → (value itself lanes ≡ value decimal_table (take n s)) × Each1 (λ x. x < 16) lanes
end_values m n s lanes digits is =
    let known = digits_value n s digits in (
      ap (value itself) is ∙ value-replicate itself 0 refl m (take n (map above_zero s)) ∙ known.0,
      subst (Each1 (λ x. x < 16)) (sym is) (each-append _ (replicate m 0) _ (Each1-replicate (λ x. x < 16) m 0 (lit< tt)) known.1),
    )

-- So do the first n lanes, moved to the end.
pub moved_values : (n : ℕ) (v lanes : List ℕ) → n ≤ 16 → length v ≡ 16 → n ≤ run_len decimal_table v
    → lanes ≡ take 16 (drop n (padded (zip2 less v (replicate 16 48))))
    → (value itself lanes ≡ value decimal_table (take n v)) × Each1 (λ x. x < 16) lanes
moved_values n v lanes le long digits moved =
    end_values (16 - n) n v lanes digits
    (moved ∙ ap (λ l. take 16 (drop n (padded l))) (zip2_splat less v 16 48 long)
    ∙ first_at_end n (map above_zero v) le (length-map v above_zero ∙ long))

abbrev last_lanes : List ℕ
last_lanes = replicate 16 0 ++ replicate 16 255

-- The 16 entries from place n on keep the last n lanes.
kept : (m n : ℕ) (v : List ℕ) → length v ≡ m + n
    → zip2 bit_and (map above_zero v) (replicate m 0 ++ replicate n 255) ≡ replicate m 0 ++ map above_zero (drop m v)
kept zero zero [] long = refl
kept zero zero (x ∷ xs) long = absurd (omega (arith, long))
kept zero (suc n) [] long = absurd (omega (arith, long))
kept (suc m) n [] long = absurd (omega (arith, long))
kept zero (suc n) (x ∷ xs) long = ap₂ (λ a b. a ∷ b) (and_mask (above_zero x) 8 ∙ omega arith) (kept zero n xs (omega (arith, long)))
kept (suc m) n (x ∷ xs) long = ap₂ (λ a b. a ∷ b) (and_mask (above_zero x) 0 ∙ omega arith) (kept m n xs (omega (arith, long)))

abbrev Row : ℕ → Type 0
Row n = take 16 (take (32 - n) (drop n last_lanes)) ≡ replicate (16 - n) 0 ++ replicate n 255

-- Of sixteen digits, less 48, the last n, kept so, spell their value.
pub last_values : (n : ℕ) (v lanes : List ℕ) → n ≤ 16 → length v ≡ 16 → run_len decimal_table v ≡ 16
    → lanes ≡ zip2 bit_and (zip2 less v (replicate 16 48)) (take 16 (take (32 - n) (drop n last_lanes)))
    → (value itself lanes ≡ value decimal_table (drop (16 - n) v)) × Each1 (λ x. x < 16) lanes
last_values n v lanes le long all are =
    let rest = drop (16 - n) v in
    let count : length rest ≡ n = length-drop (16 - n) v ∙ omega (arith, long) in
    let whole = take_all n (map above_zero rest) (omega (arith, length-map rest above_zero, count)) in
    let row = each_from Row 0 17 (search rules) n (omega arith) (omega arith) in
    let known = end_values (16 - n) n rest lanes
    (omega (arith, all, prefix_len-drop (is_digit decimal_table) (16 - n) v (omega (arith, all))))
    (are ∙ ap₂ (zip2 bit_and) (zip2_splat less v 16 48 long) row
    ∙ kept (16 - n) n v (omega (arith, long)) ∙ ap (λ l. replicate (16 - n) 0 ++ l) (sym whole)) in
    (known.0 ∙ ap (value decimal_table) (take_all n rest (omega (arith, count))), known.1)
