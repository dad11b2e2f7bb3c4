-- Numbers of so few digits that no limit refuses them.
use Rattle.std.proofs.Common.{◌≡◌, ℕ, ◌<◌, ◌≤◌, ◌+◌, ◌==◌, Bool, true, false, List, [], ◌∷◌, length, take, drop, get_or, Option, None, IfSome, ℤ, Ok, refl, sym, ap, ap₂, suc, ◌∙◌, arith, if◌then◌else◌, length-drop}
use Rattle.std.proofs.lemmas.Bool.Decides.{nat_tests}
use Rattle.atoi_core.specs.Digit.{Table, decimal_table, is_digit}
use Rattle.atoi_core.specs.Run.{run_len, zeros, run, value}
use Rattle.atoi_core.specs.Loads.{LoadsWithin, most_loads}
use Rattle.atoi_core.specs.Laws.{looked_for}
use Rattle.atoi_core.specs.Magnitude.{Class, Extent, whole, prefix, is_above, refusal}
use Rattle.atoi_core.specs.IntType.{IntType, IsSized, class_of, bound_of, limit_of}
use Rattle.atoi_core.specs.Sign.{Sign, sign_of, with_sign}
use Rattle.atoi_core.specs.Answer.{whole_answer, prefix_answer, with_more}
use Rattle.atoi_core.proofs.lemmas.Refusals.{limit_at, significant_len, refusal-none}
use Rattle.atoi_core.proofs.lemmas.Bounds.{limit-least}
use Rattle.atoi_core.proofs.lemmas.Runs.{run_all, zeros-le}
use Rattle.std.proofs.lemmas.List.Sums.{prefix_len-le-length}
use Rattle.atoi_core.proofs.lemmas.Calls.{found_prefix, from_whole, length-taken, sign_of_digits, to_whole, with_more-zero}
use Rattle.atoi_core.proofs.lemmas.Prefixes.{prefix_is_whole}
use Rattle.atoi_fast.specs.Short.{IsNumber, BeginsWithNumber, HasMinus, zero_for_minus}

-- No limit refuses so many digits.
abbrev pub most_digits : IntType → ℕ
most_digits int = if int.bits == 64 then 19 else 16

pub sixteen_fit : (int : IntType) → 16 ≤ most_digits int
sixteen_fit int = grind (arith, nat_tests)

few_enough : (int : IntType) (extent : Extent) (skip : Bool) (count : ℕ) → count ≤ most_digits int
    → is_above (limit_at (class_of int) extent skip (limit_of int)) count ≡ false
few_enough int extent skip count few = grind (arith, nat_tests, limit-least int)

module _ (int : IntType) (minus : Bool) (body : List ℕ) (some : 0 < run_len decimal_table body)
    (few : run_len decimal_table body ≤ most_digits int)
    (in_range : value decimal_table (run decimal_table body) ≤ bound_of int minus) where
  prefix_accepted : (skip : Bool) → refusal decimal_table (class_of int) (bound_of int minus) (limit_of int) prefix skip body ≡ None
  prefix_accepted skip =
      refusal-none decimal_table (class_of int) (bound_of int minus) (limit_of int) prefix skip body
      (record {
        some = some;
        short = few_enough int prefix skip (significant_len decimal_table skip body) (omega arith);
        in_range = in_range;
        ends = refl;
      })

  prefix_of_body : (skip : Bool) (taken len number : ℕ) → number ≡ value decimal_table (run decimal_table body)
      → len ≡ run_len decimal_table body + taken
      → Ok (with_sign minus number, len) ≡ with_more taken (prefix_answer decimal_table int minus skip body)
  prefix_of_body skip taken len number number_is len_is =
      rw (prefix_accepted skip) (ap₂ (λ n k. Ok (with_sign minus n, k)) number_is len_is)

  whole_of_body : run_len decimal_table body ≡ length body → (skip : Bool)
      → Ok (with_sign minus (value decimal_table (run decimal_table body))) ≡ whole_answer decimal_table int minus skip body
  whole_of_body all skip =
      sym (to_whole int minus skip body _ (record {
        some = some;
        short = few_enough int whole skip (significant_len decimal_table skip body) (omega arith);
        in_range = in_range;
        all = all;
        number = refl;
      }))

-- The sign is the same for each flag.
minus_is : (int : IntType) (plus : Bool) (s : List ℕ) → HasMinus int.signed s
    → sign_of int.signed plus s ≡ record { minus = true; taken = 1; body = drop 1 s }
minus_is int plus [] has = absurd (omega (arith, ap length has.1))
minus_is int plus (b ∷ bs) has = grind (arith, nat_tests)

-- The number at the start of a slice, its sign included.
pub prefix_is : (int : IntType) (minus : Bool) (s : List ℕ) (len number : ℕ) → (minus ≡ true → HasMinus int.signed s)
    → (if minus then 1 else 0) < len → len ≤ most_digits int + (if minus then 1 else 0)
    → len ≡ run_len decimal_table (zero_for_minus minus s)
    → number ≡ value decimal_table (take len (zero_for_minus minus s)) → number ≤ bound_of int minus
    → BeginsWithNumber int s (with_sign minus number) len
prefix_is int false s len number has some few len_is number_is in_range = λ skip plus.
    let spelled : number ≡ value decimal_table (run decimal_table s) = number_is ∙ ap (λ n. value decimal_table (take n s)) len_is in
    rw (sign_of_digits int.signed plus s (omega arith))
    (prefix_of_body int false s (omega arith) (omega (arith, few)) (omega arith) skip 0 len number spelled (omega arith))
prefix_is int true s len number has some few len_is number_is in_range = λ skip plus.
    let body = drop 1 s in
    let count : len ≡ suc (run_len decimal_table body) = omega arith in
    let spelled : number ≡ value decimal_table (run decimal_table body) = omega (arith, rw count at number_is) in
    rw (minus_is int plus s (has refl))
    (prefix_of_body int true body (omega arith) (omega (arith, few)) (omega arith) skip 1 len number spelled (omega arith))

-- So is the number that a whole slice spells.
pub whole_is : (int : IntType) (minus : Bool) (s : List ℕ) (number : ℕ) → (minus ≡ true → HasMinus int.signed s)
    → (if minus then 1 else 0) < length s → length s ≤ 16 → run_len decimal_table (zero_for_minus minus s) ≡ length s
    → number ≡ value decimal_table (zero_for_minus minus s) → number ≤ bound_of int minus
    → IsNumber int s (with_sign minus number)
whole_is int false s number has some few all number_is in_range = λ skip plus.
    let spelled : number ≡ value decimal_table (run decimal_table s) =
    number_is ∙ ap (value decimal_table) (sym (run_all decimal_table s all)) in
    rw (sign_of_digits int.signed plus s (omega arith), spelled)
    (whole_of_body int false s (omega arith) (omega (arith, sixteen_fit int)) (omega arith) all skip)
whole_is int true s number has some few all number_is in_range = λ skip plus.
    let body = drop 1 s in
    let count : run_len decimal_table body ≡ length body = omega (arith, length-drop 1 s) in
    let spelled : number ≡ value decimal_table (run decimal_table body) =
    omega (arith, ap (value decimal_table) (run_all decimal_table body count)) in
    rw (minus_is int plus s (has refl), spelled)
    (whole_of_body int true body (omega (arith, length-drop 1 s)) (omega (arith, length-drop 1 s, sixteen_fit int))
    (omega arith) count skip)

-- A number at the start that ends with the slice.
pub whole_begins : (int : IntType) (s : List ℕ) (number : ℤ) (len : ℕ) → BeginsWithNumber int s number len → len ≡ length s
    → IsNumber int s number
whole_begins int s number len begins all = λ skip plus.
    sym ((prefix_is_whole int).whole (looked_for plus) skip s number (sym (begins skip plus) ∙ ap (λ n. Ok (number, n)) all))

pub starts_with_digit : (s : List ℕ) → 1 ≤ length s → 48 ≤ get_or s 0 0 → get_or s 0 0 ≤ 57 → 0 < run_len decimal_table s
starts_with_digit [] some low high = absurd (omega arith)
starts_with_digit (b ∷ bs) some low high = grind (arith, nat_tests)

-- A number at the start that begins with a digit has no sign.
pub begins_with_digit : (int : IntType) (skip : Bool) (s : List ℕ) (number : ℤ) (len : ℕ) → 0 < run_len decimal_table s
    → BeginsWithNumber int s number len → Ok (number, len) ≡ prefix_answer decimal_table int false skip s
begins_with_digit int skip s number len some begins =
    begins skip false
    ∙ ap (λ (g : Sign). with_more g.taken (prefix_answer decimal_table int g.minus skip g.body)) (sign_of_digits int.signed false s some)
    ∙ with_more-zero (prefix_answer decimal_table int false skip s)

-- A number, if the type has it.
pub if_in_range : {T : Type 0} (number : T → ℤ) (int : IntType) (s : List ℕ) (minus : Bool) (magnitude : ℕ) (found : Option T)
    → IfSome found (λ n. magnitude ≤ bound_of int minus) → IfSome found (λ n. number n ≡ with_sign minus magnitude)
    → (magnitude ≤ bound_of int minus → IsNumber int s (with_sign minus magnitude)) → IfSome found (λ n. IsNumber int s (number n))
if_in_range number int s minus magnitude found in_range number_is is = grind arith

-- Each type has the number 127, and types of 32 bits and more have all numbers of nine digits.
pub least_bound : (int : IntType) → IsSized int → (minus : Bool) → 127 ≤ bound_of int minus
least_bound int sized minus = grind (arith, nat_tests, sized.bits, sized.greatest)

pub len-le : (int : IntType) (s : List ℕ) (number : ℤ) (len : ℕ) → BeginsWithNumber int s number len → len ≤ length s
len-le int s number len begins =
    let sign = sign_of int.signed true s in
    let found = found_prefix int (looked_for true) true s number len (sym (begins true true)) in
    omega (arith, found.count_is, length-taken int (looked_for true) s, prefix_len-le-length (is_digit decimal_table) sign.body)

-- ---- Loads

pub body-le : (signed plus : Bool) (s : List ℕ) → length (sign_of signed plus s).body ≤ length s
body-le signed plus s = grind (arith, nat_tests)

-- A number of few bytes begins with few zeros.
pub zeros-few : (int : IntType) (plus : Bool) (s : List ℕ) (number : ℤ) (len : ℕ) → BeginsWithNumber int s number len
    → zeros decimal_table (sign_of int.signed plus s).body ≤ len
zeros-few int plus s number len begins =
    let found = found_prefix int (looked_for plus) true s number len (sym (begins true plus)) in
    omega (arith, found.count_is, zeros-le decimal_table (sign_of int.signed plus s).body)

pub one_load : (table : Table) (most : ℕ) (skip : Bool) (body : List ℕ) {before after : ℕ} → 1 ≤ most → zeros table body < 32
    → after ≡ before + 1 → LoadsWithin most table skip body before after
one_load table most skip body some few one = record {
  at_most = omega (arith, some, one);
  at_least = λ _. omega (arith, one);
  at_least_skipping = λ _. omega (arith, few, one);
}

pub short_load : (table : Table) (class : Class) (skip : Bool) (body : List ℕ) {before after : ℕ} → length body < 16 → after ≡ before + 1
    → LoadsWithin (most_loads table class body + 1) table skip body before after
short_load table class skip body few one =
    one_load table (most_loads table class body + 1) skip body (omega arith)
    (omega (arith, few, zeros-le table body, prefix_len-le-length (is_digit table) body)) one

-- ---- Whole slices at the start of a slice, and without a sign

pub prefix_of_whole : (int : IntType) (s : List ℕ) (number : ℤ) → length s ≤ 16 → IsNumber int s number
    → BeginsWithNumber int s number (length s)
prefix_of_whole int s number few is = λ skip plus.
    let g = sign_of int.signed plus s in
    let found = from_whole int g.minus skip g.body number (sym (is skip plus)) in
    let within : run_len decimal_table g.body ≤ most_digits int =
    omega (arith, few, found.all, body-le int.signed plus s, sixteen_fit int) in
    let len_is : length s ≡ run_len decimal_table g.body + g.taken = omega (arith, found.all, length-taken int (looked_for plus) s) in
    rw found.number
    (prefix_of_body int g.minus g.body found.some within found.in_range skip g.taken (length s)
    (value decimal_table (run decimal_table g.body)) refl len_is)

pub whole_with_digit : (int : IntType) (skip : Bool) (s : List ℕ) (number : ℤ) → 0 < run_len decimal_table s
    → IsNumber int s number → Ok number ≡ whole_answer decimal_table int false skip s
whole_with_digit int skip s number some is =
    is skip false
    ∙ ap (λ (g : Sign). whole_answer decimal_table int g.minus skip g.body) (sign_of_digits int.signed false s some)
