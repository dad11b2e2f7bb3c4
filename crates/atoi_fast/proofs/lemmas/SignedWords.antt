-- Words whose first byte may be a minus.
use Rattle.std.proofs.Common.{◌≡◌, ℕ, zero, suc, ◌+◌, ◌-◌, ◌*◌, ◌/◌, ◌%◌, ◌^◌, ◌<◌, ◌≤◌, Bool, true, false, ◌==◌, ◌&&◌, nat_le, refl, sym, ap, ap₂, ◌∙◌, arith, lit<, mod-lt, eqb-true, ◌≢◌, if◌then◌else◌, List, [], ◌∷◌, length, take, get_or, suc-mul, add-zero, get_or-drop, length-drop, eq-zero-or-pos, inl, inr}
use Rattle.std.proofs.lemmas.Bool.{agree_below_at}
use Rattle.std.proofs.lemmas.Bool.Decides.{nat_tests}
use Rattle.std.proofs.lemmas.Nat.{mod-pow-add, and_mask, and_block, shr_split, and_shr, and_mod, or_shr, or_mod, and_assoc}
use Rattle.std.specs.Simd.Lanes.{digits_l}
use Rattle.std.specs.Int.Count.{count_trailing_zeros}
use Rattle.std.specs.Int.Bits.{bit_and, bit_or, and_zero_r}
use Rattle.atoi_core.specs.Digit.{decimal_table, is_digit}
use Rattle.atoi_core.specs.Run.{run_len}
use Rattle.atoi_core.specs.Words.{low_bytes, low_value, word_of}
use Rattle.atoi_fast.specs.Short.{zero_for_minus, at_top}
use Rattle.atoi_fast.proofs.lemmas.WordRuns.{sum_at_top, none_marked}
use Rattle.atoi_core.proofs.lemmas.WordFields.{repeated, zero_field, stopping_field}
use Rattle.atoi_core.proofs.lemmas.WordRuns.{Change, constant, added, cut, both}
use Rattle.atoi_core.proofs.lemmas.LoweredWords.{without_48, without_48-some, lowered, marks_in, lowered_value, marks_of_8}

abbrev marking : Change
marking =
    both bit_and and_shr and_mod (both bit_or or_shr or_mod (cut (added 70 (lit< tt))) (cut lowered)) (constant 128 (lit< tt))

-- The marks of k bytes, of which the byte before borrowed one.
abbrev borrowed : ℕ → ℕ → ℕ
borrowed k word =
    bit_and (bit_or ((word + repeated 70 k) % 2 ^ (k * 8)) ((word + (without_48 k - 1)) % 2 ^ (k * 8))) (repeated 128 k)

-- The byte after a borrow has no mark if it is a digit and not a zero.
unmarked : (b : ℕ) → b < 256 → bit_and (bit_or ((b + 70) % 256) ((b + 207) % 256)) 128 ≡ 0 → (49 ≤ b) × (b ≤ 57)
unmarked b small none =
    let same =
    agree_below_at (λ n. bit_and (bit_or ((n + 70) % 256) ((n + 207) % 256)) 128 == 0) (λ n. nat_le 49 n && nat_le n 57) 256 b
    refl small in
    grind (arith, nat_tests, same)

digit_unmarked : (b : ℕ) → b < 256 → is_digit decimal_table b ≡ true → marking.of_byte b ≡ 0
digit_unmarked b small digit =
    let same = agree_below_at (λ n. marking.of_byte n == 0) (is_digit decimal_table) 256 b refl small in
    eqb-true (marking.of_byte b) 0 (same ∙ digit)

module _ (k word : ℕ) where
  abbrev above : ℕ
  above = (word + repeated 70 (suc k)) % 2 ^ (suc k * 8)

  abbrev below : ℕ
  below = (word + (without_48 (suc k) - 1)) % 2 ^ (suc k * 8)

  borrowed_low : borrowed (suc k) word % 256 ≡ bit_and (bit_or ((word % 256 + 70) % 256) ((word % 256 + 207) % 256)) 128
  borrowed_low =
      let some = without_48-some k in
      let above_low : above % 256 ≡ (word % 256 + 70) % 256 =
      rw (suc-mul k 8) (omega (arith, mod-pow-add (word + repeated 70 (suc k)) (k * 8) 8)) in
      let below_low : below % 256 ≡ (word % 256 + 207) % 256 =
      rw (suc-mul k 8) (omega (arith, mod-pow-add (word + (without_48 (suc k) - 1)) (k * 8) 8)) in
      and_mod (bit_or above below) (repeated 128 (suc k)) 8
      ∙ ap₂ bit_and (or_mod above below 8 ∙ ap₂ bit_or above_low below_low) (omega arith)

  -- Without a mark in the lowest byte, these are the marks of the digits.
  borrowed_marks : borrowed (suc k) word % 256 ≡ 0 → borrowed (suc k) word ≡ marks_in (suc k) word
  borrowed_marks none =
      let some = without_48-some k in
      let small : word % 256 < 256 = mod-lt word (lit< tt) in
      let range = unmarked (word % 256) small (sym borrowed_low ∙ none) in
      let digit : is_digit decimal_table (word % 256) ≡ true = grind (arith, nat_tests) in
      let start : (word + (without_48 (suc k) - 1)) / 256 ≡ word / 256 + without_48 k = omega arith in
      let below_rest : below / 256 ≡ (word / 256 + without_48 k) % 2 ^ (k * 8) =
      rw (suc-mul k 8, ← start) (omega (arith, mod-pow-add (word + (without_48 (suc k) - 1)) (k * 8) 8)) in
      let rest : borrowed (suc k) word / 256 ≡ marks_in k (word / 256) =
      and_shr (bit_or above below) (repeated 128 (suc k)) 8
      ∙ ap₂ bit_and (or_shr above below 8 ∙ ap₂ bit_or ((cut (added 70 (lit< tt))).rest k word digit) below_rest) (omega arith) in
      let low : marks_in (suc k) word % 256 ≡ 0 = marking.low k word ∙ digit_unmarked (word % 256) small digit in
      let high : marks_in (suc k) word / 256 ≡ marks_in k (word / 256) = marking.rest k word digit in
      omega (arith, none, low, rest, high)

-- The marks of all bytes but the first.
abbrev pub marks_after_first : ℕ → ℕ
marks_after_first word =
    bit_and (bit_or ((word + repeated 70 8) % 2 ^ 64) ((word + without_48 8) % 2 ^ 64)) (repeated 128 7 * 256)

after_first : (x : ℕ) → bit_and x (repeated 128 7 * 256) ≡ bit_and (x / 256) (repeated 128 7) * 256
after_first x =
    let none : repeated 128 7 * 256 ≡ repeated 128 7 * 256 + 0 = refl in
    let block = rw (shr_split x 8) at (and_block 8 (x / 256) (repeated 128 7) (x % 256) 0 (mod-lt x (lit< tt)) (lit< tt)) in
    omega (arith, block, and_zero_r (x % 256))

-- The lowest byte of masked marks is 0 if its highest bit is.
low_unmarked : (y : ℕ) → bit_and (bit_and y (repeated 128 7) * 256) 0x8000 ≡ 0 → bit_and y (repeated 128 7) % 256 ≡ 0
low_unmarked y none =
    let marks = bit_and y (repeated 128 7) in
    let whole : marks * 256 ≡ marks * 256 + 0 = omega arith in
    let bit : bit_and marks 128 ≡ 0 = omega (arith, rw whole at none, and_block 8 marks 128 0 0 (lit< tt) (lit< tt)) in
    and_mod y (repeated 128 7) 8 ∙ sym (and_mod y 128 8) ∙ ap (λ x. x % 256) (sym (and_assoc 128 y (repeated 128 7)) ∙ bit)

-- With a digit first, these are all marks.
pub marks_after_digit : (word : ℕ) → is_digit decimal_table (word % 256) ≡ true → marks_after_first word ≡ marks_in 8 word
marks_after_digit word digit =
    let x = bit_or ((word + repeated 70 8) % 2 ^ 64) ((word + without_48 8) % 2 ^ 64) in
    let low : marks_in 8 word % 256 ≡ 0 = marking.low 7 word ∙ digit_unmarked (word % 256) (mod-lt word (lit< tt)) digit in
    let rest : marks_in 8 word / 256 ≡ bit_and (x / 256) (repeated 128 7) = and_shr x (repeated 128 8) 8 in
    omega (arith, after_first x)

-- With a minus first and no mark in the second byte, they are those with a zero for the minus.
pub marks_after_minus : (word : ℕ) → word % 256 ≡ 45 → bit_and (marks_after_first word) 0x8000 ≡ 0
    → marks_after_first word ≡ marks_in 8 (word + 3)
marks_after_minus word minus none =
    let rest = word / 256 in
    let a = (word + repeated 70 8) % 2 ^ 64 in
    let b = (word + without_48 8) % 2 ^ 64 in
    let y = bit_or ((rest + repeated 70 7) % 2 ^ 56) ((rest + (without_48 7 - 1)) % 2 ^ 56) in
    let a_rest : a / 256 ≡ (rest + repeated 70 7) % 2 ^ 56 = omega arith in
    let b_rest : b / 256 ≡ (rest + (without_48 7 - 1)) % 2 ^ 56 = omega arith in
    let marks : marks_after_first word ≡ borrowed 7 rest * 256 =
    after_first (bit_or a b) ∙ ap (λ x. bit_and x (repeated 128 7) * 256) (or_shr a b 8 ∙ ap₂ bit_or a_rest b_rest) in
    let low : borrowed 7 rest % 256 ≡ 0 = low_unmarked y (rw marks at none) in
    let digit : is_digit decimal_table ((word + 3) % 256) ≡ true = grind (arith, nat_tests) in
    let rest_is : (word + 3) / 256 ≡ rest = omega arith in
    let zero_low : marks_in 8 (word + 3) % 256 ≡ 0 =
    marking.low 7 (word + 3) ∙ digit_unmarked ((word + 3) % 256) (mod-lt (word + 3) (lit< tt)) digit in
    let zero_rest : marks_in 8 (word + 3) / 256 ≡ marks_in 7 rest = marking.rest 7 (word + 3) digit ∙ ap (marks_in 7) rest_is in
    omega (arith, borrowed_marks 6 rest low)

-- How many digits there are, by the mark of the second byte.
module _ (word : ℕ) where
  marks_low : bit_and (marks_after_first word) 0x8000 ≡ 0 → marks_after_first word % 2 ^ 16 ≡ 0
  marks_low none =
      let x = bit_or ((word + repeated 70 8) % 2 ^ 64) ((word + without_48 8) % 2 ^ 64) in
      omega (arith, after_first x, low_unmarked (x / 256) (rw after_first at none))

  marks_some : bit_and (marks_after_first word) 0x8000 ≢ 0 → 0 < marks_after_first word % 2 ^ 16
  marks_some some =
      let marks = marks_after_first word in
      let none : marks % 2 ^ 16 ≡ 0 → bit_and marks 0x8000 ≡ 0 =
      λ e. (let whole : marks ≡ marks / 2 ^ 16 * 2 ^ 16 + 0 = omega arith in
      let block = and_block 16 (marks / 2 ^ 16) 0 0 0x8000 (lit< tt) (lit< tt) in
      omega (arith, ap (λ x. bit_and x 0x8000) whole, block, and_zero_r (marks / 2 ^ 16))) in
      grind (arith, none)

  pub one_digit : is_digit decimal_table (word % 256) ≡ true → bit_and (marks_after_first word) 0x8000 ≢ 0
      → run_len decimal_table (low_bytes 8 word) ≡ 1
  unfolding low_bytes
  one_digit digit some =
      let first : 1 ≤ run_len decimal_table (digits_l 256 8 word) = grind (arith, nat_tests) in
      let all = marks_after_digit word digit in
      omega (arith, rw all at (stopping_field 16 48 (marks_after_first word) (marks_some some)), marks_of_8 word)

-- ---- The word with a zero in the place of its minus

abbrev pub zeroed : Bool → ℕ → ℕ
zeroed minus word = word + (if minus then 3 else 0)

-- Digits minus 48, moved to the top: bytes below 16, with the sum of the digits.
pub lowered_at_top : (len word digits : ℕ) → len ≤ 8 → len ≤ run_len decimal_table (low_bytes 8 word)
    → digits ≡ (word + without_48 8) % 2 ^ 64
    → (bit_and (at_top len digits) (repeated 15 8) ≡ at_top len digits)
    × (low_value (low_bytes len digits) ≡ low_value (low_bytes len word))
lowered_at_top len word digits few run digits_are =
    let same = lowered_value len word (at_top len digits) few run (ap (at_top len) digits_are) in
    (same.0, sym (sum_at_top len digits few) ∙ same.1)

-- The first byte of a loaded word is that of the slice.
pub first_of_word : (s : List ℕ) (word : ℕ) → 0 < length s → ((i : ℕ) → get_or s i 0 < 256) → word ≡ word_of (take 8 s)
    → word % 256 ≡ get_or s 0 0
unfolding word_of
first_of_word [] word some fits word_is = absurd (omega arith)
first_of_word (b ∷ bs) word some fits word_is = omega (arith, fits 0)

pub zeroed_fits : (minus : Bool) (s : List ℕ) → ((i : ℕ) → get_or s i 0 < 256) → (i : ℕ) → get_or (zero_for_minus minus s) i 0 < 256
zeroed_fits false s fits i = fits i
zeroed_fits true s fits zero = omega arith
zeroed_fits true s fits (suc i) = rw get_or-drop (fits (1 + i))

pub length-zeroed : (minus : Bool) (s : List ℕ) → 0 < length s → length (zero_for_minus minus s) ≡ length s
length-zeroed false s some = refl
length-zeroed true s some = omega (arith, length-drop 1 s)

-- Adding 3 to a minus makes it a zero.
pub zeroed_word : (minus : Bool) (s : List ℕ) (word : ℕ) → 0 < length s → ((i : ℕ) → get_or s i 0 < 256) → word ≡ word_of (take 8 s)
    → (minus ≡ true → word % 256 ≡ 45) → zeroed minus word ≡ word_of (take 8 (zero_for_minus minus s))
unfolding word_of
zeroed_word false s word some fits word_is is_minus = omega arith
zeroed_word true [] word some fits word_is is_minus = absurd (omega arith)
zeroed_word true (b ∷ bs) word some fits word_is is_minus = omega (arith, fits 0, is_minus refl)

-- A word that begins with a digit or a minus, with no mark in its second byte; `digits` are its bytes minus 48,
-- with 0 for the minus.
pub record IsSigned (minus : Bool) (word digits : ℕ) : Type 0 where
  pub is_minus : minus ≡ true → word % 256 ≡ 45
  pub starts : is_digit decimal_table (zeroed minus word % 256) ≡ true
  pub digits_are : digits ≡ (zeroed minus word + without_48 8) % 2 ^ 64
  pub goes_on : bit_and (marks_after_first word) 0x8000 ≡ 0

all_marks : {minus : Bool} {word digits : ℕ} → IsSigned minus word digits → marks_after_first word ≡ marks_in 8 (zeroed minus word)
all_marks {minus = true} {word} signed = marks_after_minus word (signed.is_minus refl) signed.goes_on
all_marks {minus = false} {word} signed =
    marks_after_digit word (rw add-zero at signed.starts) ∙ ap (marks_in 8) (sym (add-zero word))

-- The marks count the digits, at least two with the zero.
pub signed_run : {minus : Bool} {word digits : ℕ} → IsSigned minus word digits
    → (count_trailing_zeros 64 (marks_after_first word) / 8 ≡ run_len decimal_table (low_bytes 8 (zeroed minus word)))
    × (2 ≤ run_len decimal_table (low_bytes 8 (zeroed minus word)))
signed_run {minus} {word} signed =
    let count = ap (λ m. count_trailing_zeros 64 m / 8) (all_marks signed) ∙ marks_of_8 (zeroed minus word) in
    (count, omega (arith, count, zero_field 16 48 (marks_after_first word) (marks_low word signed.goes_on)))

pub signed_run_full : {minus : Bool} {word digits : ℕ} → IsSigned minus word digits → marks_after_first word ≡ 0
    → run_len decimal_table (low_bytes 8 (zeroed minus word)) ≡ 8
signed_run_full {minus} {word} signed none = none_marked (zeroed minus word) (sym (all_marks signed) ∙ none)

pub to_signed : (minus : Bool) (word back digits : ℕ) → (minus ≡ true → word % 256 ≡ 45) → back ≡ (if minus then 3 else 0)
    → digits ≡ ((word + without_48 8) % 2 ^ 64 + back) % 2 ^ 64 → digits % 256 ≤ 9 → bit_and (marks_after_first word) 0x8000 ≡ 0
    → IsSigned minus word digits
to_signed minus word back digits is_minus back_is digits_are small none =
    let same : digits ≡ (zeroed minus word + without_48 8) % 2 ^ 64 = omega arith in
    let low : 48 ≤ zeroed minus word % 256 = omega arith in
    let high : zeroed minus word % 256 ≤ 57 = omega arith in
    record { is_minus = is_minus; starts = grind (arith, nat_tests); digits_are = same; goes_on = none }

-- ---- Digits before the first mark

lowest_clear : (marks a b : ℕ) → marks % 2 ^ a ≡ 0 → a ≤ count_trailing_zeros (a + b) marks
lowest_clear marks a b none = omega (arith, zero_field a b marks none)

some_set : (marks mask a : ℕ) → bit_and marks mask ≡ marks % 2 ^ a → bit_and marks mask ≢ 0 → 0 < marks % 2 ^ a
some_set marks mask a same some = elim (eq-zero-or-pos (marks % 2 ^ a)) [
  | inl none ↦ absurd (some (same ∙ none))
  | inr pos ↦ pos
]

module _ (word : ℕ) where
  abbrev all : ℕ
  all = marks_in 8 word

  abbrev run : ℕ
  run = run_len decimal_table (low_bytes 8 word)

  pub run_of_one : bit_and all 0xFF ≡ 0 → bit_and all 0xFFFF ≢ 0 → run ≡ 1
  run_of_one none some =
      omega (
        arith,
        marks_of_8 word,
        lowest_clear all 8 56 (sym (and_mask all 8) ∙ none),
        stopping_field 16 48 all (some_set all 0xFFFF 16 (and_mask all 16) some),
      )

  pub run_of_two : bit_and all 0xFFFF ≡ 0 → bit_and all 0xFF_FFFF ≢ 0 → run ≡ 2
  run_of_two none some =
      omega (
        arith,
        marks_of_8 word,
        lowest_clear all 16 48 (sym (and_mask all 16) ∙ none),
        stopping_field 24 40 all (some_set all 0xFF_FFFF 24 (and_mask all 24) some),
      )

  pub run_of_three : bit_and all 0xFF_FFFF ≡ 0 → bit_and all 0xFFFF_FFFF ≢ 0 → run ≡ 3
  run_of_three none some =
      omega (
        arith,
        marks_of_8 word,
        lowest_clear all 24 40 (sym (and_mask all 24) ∙ none),
        stopping_field 32 32 all (some_set all 0xFFFF_FFFF 32 (and_mask all 32) some),
      )

  pub run_of_more : bit_and all 0xFFFF_FFFF ≡ 0 → 4 ≤ count_trailing_zeros 64 all / 8
  run_of_more none = omega (arith, lowest_clear all 32 32 (sym (and_mask all 32) ∙ none))

-- The bytes of a run are digits.
module _ (word : ℕ) where
  abbrev lowered_word : ℕ
  lowered_word = (word + without_48 8) % 2 ^ 64

  digit_at_0 : 1 ≤ run_len decimal_table (low_bytes 8 word) → (48 ≤ word % 256) × (word % 256 ≤ 57)
  unfolding low_bytes
  digit_at_0 some = grind (arith, nat_tests)

  digit_at_1 : 2 ≤ run_len decimal_table (low_bytes 8 word) → (48 ≤ word / 256 % 256) × (word / 256 % 256 ≤ 57)
  unfolding low_bytes
  digit_at_1 some = grind (arith, nat_tests)

  digit_at_2 : 3 ≤ run_len decimal_table (low_bytes 8 word) → (48 ≤ word / 256 / 256 % 256) × (word / 256 / 256 % 256 ≤ 57)
  unfolding low_bytes
  digit_at_2 some = grind (arith, nat_tests)

  pub value_of_one : 1 ≤ run_len decimal_table (low_bytes 8 word)
      → (lowered_word % 256 ≡ low_value (low_bytes 1 word)) × (lowered_word % 256 ≤ 9)
  unfolding low_bytes
  value_of_one some =
      let first = digit_at_0 some in
      (omega (arith, first), omega (arith, first))

  pub value_of_two : 2 ≤ run_len decimal_table (low_bytes 8 word) → let number = 10 * (lowered_word % 256) + lowered_word / 2 ^ 8 % 256 in
      (number ≡ low_value (low_bytes 2 word)) × (number ≤ 99)
  unfolding low_bytes
  value_of_two some =
      let first = digit_at_0 (omega (arith, some)) in
      let second = digit_at_1 some in
      (omega (arith, first, second), omega (arith, first, second))

  pub value_of_three : 3 ≤ run_len decimal_table (low_bytes 8 word)
      → 10 * (10 * (lowered_word % 256) + lowered_word / 2 ^ 8 % 256) + lowered_word / 2 ^ 16 % 256 ≡ low_value (low_bytes 3 word)
  unfolding low_bytes
  value_of_three some =
      let first = digit_at_0 (omega (arith, some)) in
      let second = digit_at_1 (omega (arith, some)) in
      let third = digit_at_2 some in
      omega (arith, first, second, third)
