-- Numbers at the start of a slice, read from its first word, or from two.
use Rattle.std.proofs.Common.{zero, suc, ◌≡◌, ◌≢◌, ℕ, ◌+◌, ◌*◌, ◌%◌, ◌^◌, ◌<◌, ◌≤◌, Bool, true, false, List, [], ◌∷◌, length, take, drop, get_or, refl, sym, ap, ◌∙◌, arith, min, if◌then◌else◌, bit_and, drop-drop, length-take, take-suc}
use Rattle.std.specs.Simd.Lanes.{digits_l}
use Rattle.std.proofs.Math.Nat.{add-zero, pow-le-pow_right}
use Rattle.std.proofs.lemmas.List.Sums.{prefix_len-le-length}
use Rattle.std.proofs.lemmas.Bool.Decides.{nat_tests}
use Rattle.atoi_core.specs.Digit.{decimal_table, is_digit}
use Rattle.atoi_core.specs.Run.{run_len, value}
use Rattle.atoi_core.specs.Words.{low_bytes, low_value, word_of}
use Rattle.atoi_core.specs.IntType.{IntType, bound_of}
use Rattle.atoi_core.specs.Sign.{with_sign}
use Rattle.atoi_core.proofs.lemmas.LoweredWords.{without_48}
use Rattle.atoi_core.proofs.lemmas.LoadedWords.{loaded_part, loaded_run, fits_after}
use Rattle.atoi_core.proofs.lemmas.Runs.{prefix_len-drop, prefix_len-take, value-take-add, value-below, decimal_below_ten}
use Rattle.atoi_core.proofs.lemmas.WordWindows.{first_run}
use Rattle.atoi_fast.specs.Short.{BeginsWithNumber, HasMinus, zero_for_minus}
use Rattle.atoi_fast.proofs.lemmas.ShortNumbers.{most_digits, sixteen_fit, prefix_is}
use Rattle.atoi_fast.proofs.lemmas.SignedWords.{zeroed, marks_after_first, one_digit, zeroed_fits, zeroed_word, first_of_word}

pub rest_after_minus : (minus : Bool) (front : ℕ) (s : List ℕ) → 0 < front → drop front (zero_for_minus minus s) ≡ drop front s
rest_after_minus false front s some = refl
rest_after_minus true zero s some = absurd (omega arith)
rest_after_minus true (suc front) s some =
    let one_more : 1 + front ≡ suc front = omega arith in drop-drop front 1 s ∙ ap (λ n. drop n s) one_more

module _ (minus : Bool) (s : List ℕ) (some : 0 < length s) (fits : (i : ℕ) → get_or s i 0 < 256) (word : ℕ)
    (word_is : word ≡ word_of (take 8 s))
    (is_minus : minus ≡ true → word % 256 ≡ 45) where
  zeroed_is : zeroed minus word ≡ word_of (take 8 (zero_for_minus minus s))
  zeroed_is = zeroed_word minus s word some fits word_is is_minus

  -- The run of the slice, by its first word,
  pub zeroed_run : run_len decimal_table (low_bytes 8 (zeroed minus word)) ≡ min 8 (run_len decimal_table (zero_for_minus minus s))
  zeroed_run = first_run (zero_for_minus minus s) (zeroed_fits minus s fits) (zeroed minus word) zeroed_is

  -- and the value of its digits.
  pub zeroed_value : (len : ℕ) → len ≤ run_len decimal_table (low_bytes 8 (zeroed minus word))
      → low_value (low_bytes len (zeroed minus word)) ≡ value decimal_table (take len (zero_for_minus minus s))
  zeroed_value len within = loaded_part 8 (zero_for_minus minus s) (zeroed_fits minus s fits) (zeroed minus word) zeroed_is len within

  pub has_minus : (signed : Bool) → (minus ≡ true → signed ≡ true) → minus ≡ true → HasMinus signed s
  has_minus signed only e = (only e, take-suc s 0 0 some ∙ ap (λ b. b ∷ []) (sym (first_of_word s word some fits word_is) ∙ is_minus e))

  -- The run ends in the first word.
  pub one_word_prefix : (int : IntType) (len number : ℕ) → (minus ≡ true → int.signed ≡ true)
      → len ≡ run_len decimal_table (low_bytes 8 (zeroed minus word)) → (if minus then 1 else 0) < len → len < 8
      → number ≡ low_value (low_bytes len (zeroed minus word)) → number ≤ bound_of int minus
      → BeginsWithNumber int s (with_sign minus number) len
  one_word_prefix int len number signed len_is more few number_is in_range =
      prefix_is int minus s len number (has_minus int.signed signed) more (omega (arith, sixteen_fit int)) (omega (arith, zeroed_run))
      (number_is ∙ zeroed_value len (omega arith)) in_range

-- The same for a type without a sign.
pub unsigned_word_prefix : (int : IntType) (s : List ℕ) → 0 < length s → ((i : ℕ) → get_or s i 0 < 256) → (word len number : ℕ)
    → word ≡ word_of (take 8 s) → len ≡ run_len decimal_table (low_bytes 8 word) → 0 < len → len < 8
    → number ≡ low_value (low_bytes len word) → number ≤ bound_of int false → BeginsWithNumber int s (with_sign false number) len
unsigned_word_prefix int s some fits word len number word_is len_is more few number_is in_range =
    one_word_prefix false s some fits word word_is (λ no. absurd (cc no)) int len number (λ no. absurd (cc no)) (rw add-zero len_is)
    more few (rw add-zero number_is) in_range

-- A word after the first `front` bytes, which are digits, with a zero for a minus.
module _ (minus : Bool) (s : List ℕ) (front : ℕ) (some : 0 < front) (fits : (i : ℕ) → get_or s i 0 < 256)
    (full : front ≤ run_len decimal_table (zero_for_minus minus s)) (next : ℕ) (next_is : next ≡ word_of (take 8 (drop front s))) where
  abbrev signed : List ℕ
  signed = zero_for_minus minus s

  abbrev more : ℕ
  more = run_len decimal_table (low_bytes 8 next)

  same_rest : drop front signed ≡ drop front s
  same_rest = rest_after_minus minus front s some

  run_is : run_len decimal_table signed ≡ front + run_len decimal_table (drop front s)
  run_is = prefix_len-drop (is_digit decimal_table) front signed full ∙ ap (λ l. front + run_len decimal_table l) same_rest

  more_is : more ≡ min 8 (run_len decimal_table (drop front s))
  more_is =
      let counted = loaded_run 8 (drop front s) (fits_after front s fits) next next_is in
      omega (arith, counted, prefix_len-take (is_digit decimal_table) 8 (drop front s))

  -- The number goes on in the word.
  pub joined_value : (high low : ℕ) → high ≡ value decimal_table (take front signed) → low ≡ low_value (low_bytes more next)
      → high * 10 ^ more + low ≡ value decimal_table (take (front + more) signed)
  joined_value high low high_is low_is =
      let room : front + more ≤ length signed = omega (arith, run_is, more_is, prefix_len-le-length (is_digit decimal_table) signed) in
      let low_value_is = low_is ∙ loaded_part 8 (drop front s) (fits_after front s fits) next next_is more (omega arith)
      ∙ ap (λ l. value decimal_table (take more l)) (sym same_rest) in
      rw (high_is, low_value_is) (sym (value-take-add decimal_table front more signed room))

  pub full_word : more ≡ 8 → front + 8 ≤ run_len decimal_table signed
  full_word all = omega (arith, run_is, more_is, all)

  pub all_digits : front + 8 ≤ run_len decimal_table signed → more ≡ 8
  all_digits enough = omega (arith, run_is, more_is, enough)

  -- The run ends in the word.
  pub next_word_prefix : (int : IntType) → (minus ≡ true → HasMinus int.signed s) → 1 < front → (high low : ℕ)
      → high ≡ value decimal_table (take front signed) → more < 8 → front + more ≤ most_digits int + (if minus then 1 else 0)
      → low ≡ low_value (low_bytes more next) → high * 10 ^ more + low ≤ bound_of int minus
      → BeginsWithNumber int s (with_sign minus (high * 10 ^ more + low)) (front + more)
  next_word_prefix int has two high low high_is few limit low_is in_range =
      let sign : (if minus then 1 else 0) < front + more = grind (arith, nat_tests) in
      prefix_is int minus s (front + more) (high * 10 ^ more + low) has sign limit (omega (arith, run_is, more_is, few))
      (joined_value high low high_is low_is) in_range

-- One digit, whose mark the second byte has.
pub one_digit_prefix : (int : IntType) (s : List ℕ) → 0 < length s → ((i : ℕ) → get_or s i 0 < 256) → (word digit : ℕ)
    → word ≡ word_of (take 8 s) → digit ≡ (word + without_48 8) % 2 ^ 64 % 256 → digit ≤ 9 → bit_and (marks_after_first word) 0x8000 ≢ 0
    → digit ≤ bound_of int false → BeginsWithNumber int s (with_sign false digit) 1
unfolding low_bytes
one_digit_prefix int s some fits word digit word_is digit_is small ended in_range =
    let low : 48 ≤ word % 256 = omega arith in
    let high : word % 256 ≤ 57 = omega arith in
    let run : run_len decimal_table (low_bytes 8 word) ≡ 1 = one_digit word (grind (arith, nat_tests)) ended in
    let number_is : digit ≡ low_value (digits_l 256 1 (zeroed false word)) = omega arith in
    one_word_prefix false s some fits word word_is (λ no. absurd (cc no)) int 1 digit (λ no. absurd (cc no)) (rw add-zero (sym run))
    (omega arith) (omega arith) number_is in_range

nineteen : (s : List ℕ) (len : ℕ) → len ≤ 19 → value decimal_table (take len s) < 10 ^ 19
nineteen s len few =
    let most : length (take len s) ≤ 19 = omega (arith, length-take len s) in
    let power : 10 ^ length (take len s) ≤ 10 ^ 19 = pow-le-pow_right {n = 10} (omega arith) most in
    omega (arith, value-below decimal_table decimal_below_ten (take len s))

-- At most 19 digits after a zero for a minus spell less than 10^19.
pub nineteen_digits : (minus : Bool) (s : List ℕ) (len : ℕ) → len ≤ 19 + (if minus then 1 else 0)
    → value decimal_table (take len (zero_for_minus minus s)) < 10 ^ 19
nineteen_digits false s len few = nineteen s len few
nineteen_digits true s zero few = omega arith
nineteen_digits true s (suc len) few = omega (arith, nineteen (drop 1 s) len (omega arith))
