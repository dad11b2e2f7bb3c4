-- Numbers of one to three digits, whose bytes are tested one by one.
use Rattle.std.proofs.Common.{◌≡◌, ℕ, ◌+◌, ◌-◌, ◌*◌, ◌≤◌, ◌∙◌, false, List, [], ◌∷◌, length, get_or, arith}
use Rattle.std.proofs.lemmas.Bool.Decides.{nat_tests}
use Rattle.atoi_core.specs.Digit.{decimal_table, is_digit}
use Rattle.atoi_core.specs.IntType.{IntType, IsSized, bound_of}
use Rattle.atoi_core.specs.Sign.{with_sign}
use Rattle.atoi_fast.specs.Short.{IsNumber, BeginsWithNumber}
use Rattle.atoi_fast.proofs.lemmas.ShortNumbers.{sixteen_fit, prefix_is, whole_is, least_bound}

pub only_digit : (int : IntType) → IsSized int → (s : List ℕ) → length s ≡ 1 → 48 ≤ get_or s 0 0 → get_or s 0 0 ≤ 57
    → IsNumber int s (with_sign false (get_or s 0 0 - 48))
only_digit int sized [] one low high = absurd (omega arith)
only_digit int sized (a ∷ []) one low high =
    whole_is int false (a ∷ []) (a - 48) (λ no. absurd (cc no)) (omega arith) (omega arith) (grind (arith, nat_tests))
    (grind (arith, nat_tests)) (omega (arith, least_bound int sized false))
only_digit int sized (a ∷ b ∷ rest) one low high = absurd (omega arith)

-- A digit that no digit follows.
pub first_digit : (int : IntType) → IsSized int → (s : List ℕ) → 1 ≤ length s → 48 ≤ get_or s 0 0 → get_or s 0 0 ≤ 57
    → (2 ≤ length s → is_digit decimal_table (get_or s 1 0) ≡ false) → BeginsWithNumber int s (with_sign false (get_or s 0 0 - 48)) 1
first_digit int sized [] some low high ends = absurd (omega arith)
first_digit int sized (a ∷ []) some low high ends =
    prefix_is int false (a ∷ []) 1 (a - 48) (λ no. absurd (cc no)) (omega arith) (omega (arith, sixteen_fit int))
    (grind (arith, nat_tests)) (grind (arith, nat_tests)) (omega (arith, least_bound int sized false))
first_digit int sized (a ∷ b ∷ rest) some low high ends =
    let other : is_digit decimal_table b ≡ false = ends (omega arith) in
    prefix_is int false (a ∷ b ∷ rest) 1 (a - 48) (λ no. absurd (cc no)) (omega arith) (omega (arith, sixteen_fit int))
    (grind (arith, nat_tests)) (grind (arith, nat_tests)) (omega (arith, least_bound int sized false))

-- Two digits that no digit follows.
pub first_two_digits : (int : IntType) → IsSized int → (s : List ℕ) → 3 ≤ length s → 48 ≤ get_or s 0 0 → get_or s 0 0 ≤ 57
    → 48 ≤ get_or s 1 0 → get_or s 1 0 ≤ 57 → is_digit decimal_table (get_or s 2 0) ≡ false
    → BeginsWithNumber int s (with_sign false (10 * (get_or s 0 0 - 48) + (get_or s 1 0 - 48))) 2
first_two_digits int sized [] some low high low_2 high_2 ends = absurd (omega arith)
first_two_digits int sized (a ∷ []) some low high low_2 high_2 ends = absurd (omega arith)
first_two_digits int sized (a ∷ b ∷ []) some low high low_2 high_2 ends = absurd (omega arith)
first_two_digits int sized (a ∷ b ∷ d ∷ rest) some low high low_2 high_2 ends =
    prefix_is int false (a ∷ b ∷ d ∷ rest) 2 (10 * (a - 48) + (b - 48)) (λ no. absurd (cc no)) (omega arith)
    (omega (arith, sixteen_fit int)) (grind (arith, nat_tests)) (grind (arith, nat_tests))
    (omega (arith, least_bound int sized false))

-- Three digits that no digit follows.
pub first_three_digits : (int : IntType) (s : List ℕ) → 4 ≤ length s → 48 ≤ get_or s 0 0 → get_or s 0 0 ≤ 57
    → 48 ≤ get_or s 1 0 → get_or s 1 0 ≤ 57 → 48 ≤ get_or s 2 0 → get_or s 2 0 ≤ 57 → is_digit decimal_table (get_or s 3 0) ≡ false
    → (number : ℕ) → number ≡ 10 * (10 * (get_or s 0 0 - 48) + (get_or s 1 0 - 48)) + (get_or s 2 0 - 48)
    → number ≤ bound_of int false → BeginsWithNumber int s (with_sign false number) 3
first_three_digits int [] some low high low_2 high_2 low_3 high_3 ends number number_is in_range = absurd (omega arith)
first_three_digits int (a ∷ []) some low high low_2 high_2 low_3 high_3 ends number number_is in_range = absurd (omega arith)
first_three_digits int (a ∷ b ∷ []) some low high low_2 high_2 low_3 high_3 ends number number_is in_range = absurd (omega arith)
first_three_digits int (a ∷ b ∷ d ∷ []) some low high low_2 high_2 low_3 high_3 ends number number_is in_range = absurd (omega arith)
first_three_digits int (a ∷ b ∷ d ∷ e ∷ rest) some low high low_2 high_2 low_3 high_3 ends number number_is in_range =
    prefix_is int false (a ∷ b ∷ d ∷ e ∷ rest) 3 number (λ no. absurd (cc no)) (omega arith) (omega (arith, sixteen_fit int))
    (grind (arith, nat_tests)) (number_is ∙ grind (arith, nat_tests)) in_range
