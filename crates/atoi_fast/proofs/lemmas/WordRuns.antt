-- How many digits and zeros a word begins with, and their sum.
use Rattle.std.proofs.Common.{◌≡◌, ℕ, zero, suc, ◌+◌, ◌-◌, ◌*◌, ◌/◌, ◌%◌, ◌^◌, ◌<◌, ◌≤◌, refl, sym, ◌∙◌, arith, lit<, mod-lt, nat_lt, drop, ap, ap₂}
use Rattle.std.proofs.Math.Nat.{div-div-eq-div-mul, suc-add, zero-add, mod-eq_of_lt, div-one, div-mul-le_self, mul_assoc}
use Rattle.std.proofs.lemmas.Nat.{pow_pos, pow-add, and_mask, and_block, shr_split, and_shr, and_mod, or_shr, or_mod, xor_shr, xor_mod, and_assoc, mul-mod_first, mul-mod_second}
use Rattle.std.specs.Int.Bits.{bit_and, bit_or, bit_xor, and_zero_l, and_zero_r, xor_assoc, xor_self, xor_zero_r, xor_lt, xor_disjoint}
use Rattle.std.specs.Simd.Lanes.{digits_l}
use Rattle.atoi_core.specs.Words.{low_bytes, low_value}
use Rattle.std.specs.Int.Count.{count_trailing_zeros, trailing_of_zero}
use Rattle.std.proofs.lemmas.Bool.{agree_below_at}
use Rattle.std.proofs.lemmas.Bool.Decides.{nat_tests}
use Rattle.std.specs.Char.{is_ascii_digit}
use Rattle.atoi_core.specs.Digit.{decimal_table, is_digit, is_zero}
use Rattle.atoi_core.specs.Run.{run_len, zeros}
use Rattle.atoi_core.proofs.lemmas.WordFields.{repeated, digits_cut, low_value_shifted, byte_more, round, spelled_by_bytes, one_field}
use Rattle.atoi_core.proofs.lemmas.WordRuns.{Change, unchanged, constant, cut, both, counted, zero_is_digit}
use Rattle.atoi_core.proofs.lemmas.LoweredWords.{without_48, lowered, marks_in, marks_counted, lowered_digits, masked, lowered_bytes, lowered_value, shift_cut, sum_of_fields}
use Rattle.atoi_fast.specs.Short.{at_top}

-- ---- Counting digits and zeros

-- A zero minus 48 is 0.
pub lowered_zeros_of_8 : (word : ℕ)
    → count_trailing_zeros 64 ((word + 0xCFCF_CFCF_CFCF_CFD0) % 0x1_0000_0000_0000_0000) / 8 ≡ zeros decimal_table (low_bytes 8 word)
lowered_zeros_of_8 = counted (cut lowered) (is_zero decimal_table) refl zero_is_digit 8

-- Without a mark, all bytes are digits.
none_counted : (k word : ℕ) → marks_in k word ≡ 0 → run_len decimal_table (low_bytes k word) ≡ k
none_counted k word none = omega (arith, rw (none, trailing_of_zero) at (marks_counted k word))

pub none_marked : (word : ℕ) → marks_in 8 word ≡ 0 → run_len decimal_table (low_bytes 8 word) ≡ 8
none_marked = none_counted 8

pub marks_of_4 : (word : ℕ) → count_trailing_zeros 32 (marks_in 4 word) / 8 ≡ run_len decimal_table (low_bytes 4 word)
marks_of_4 = marks_counted 4

pub none_marked_of_4 : (word : ℕ) → marks_in 4 word ≡ 0 → run_len decimal_table (low_bytes 4 word) ≡ 4
none_marked_of_4 = none_counted 4

-- ---- Words xor zeros

pub flipped_back : (a b : ℕ) → bit_xor (bit_xor a b) b ≡ a
flipped_back a b = xor_assoc a b b ∙ ap (bit_xor a) (xor_self b) ∙ xor_zero_r a

abbrev flipped : Change
flipped = both bit_xor xor_shr xor_mod unchanged (constant 48 (lit< tt))

flipped_digit : (b : ℕ) → b < 256 → nat_lt (bit_xor b 48) 10 ≡ is_digit decimal_table b
flipped_digit b fits = agree_below_at (λ n. nat_lt (bit_xor n 48) 10) (is_digit decimal_table) 256 b refl fits

-- Adds 118 to each flipped byte. No digit carries.
abbrev lifted : Change
lifted =
    record {
      of_word = λ k word. flipped.of_word k word + repeated 118 k;
      of_byte = λ b. (bit_xor b 48 + 118) % 256;
      low = λ k word. omega (arith, flipped.low k word);
      rest = λ k word e.
          let small = flipped_digit (word % 256) (mod-lt word (lit< tt)) ∙ e in
          grind (arith, nat_tests, flipped.low k word, flipped.rest k word e);
    }

abbrev flipped_marks_in : ℕ → ℕ
flipped_marks_in word = bit_and (bit_or ((word + repeated 118 8) % 2 ^ 64) word) (repeated 128 8)

pub flipped_marks : (word : ℕ) → count_trailing_zeros 64 (flipped_marks_in word) / 8
    ≡ run_len decimal_table (low_bytes 8 (bit_xor word (repeated 48 8)))
flipped_marks word =
    let marks = both bit_and and_shr and_mod (both bit_or or_shr or_mod (cut lifted) flipped) (constant 128 (lit< tt)) in
    (rw (flipped_back word (repeated 48 8)) at (counted marks (is_digit decimal_table) refl (λ b h e. e) 8 (bit_xor word (repeated 48 8))))

pub none_flipped : (word : ℕ) → flipped_marks_in word ≡ 0 → run_len decimal_table (low_bytes 8 (bit_xor word (repeated 48 8))) ≡ 8
none_flipped word none = omega (arith, rw (none, trailing_of_zero) at (flipped_marks word))

-- Digits xor 48 are digits minus 48.
pub flipped_lowered : (word : ℕ) → word < 2 ^ 64 → run_len decimal_table (low_bytes 8 (bit_xor word (repeated 48 8))) ≡ 8
    → word ≡ (bit_xor word (repeated 48 8) + without_48 8) % 2 ^ 64
unfolding low_bytes
flipped_lowered word fits full =
    let zeros = repeated 48 8 in
    let digits = bit_xor word zeros in
    let lower = (digits + without_48 8) % 2 ^ 64 in
    let lower_is : lower ≡ bit_and (digits % 2 ^ 64) (repeated 15 8) = lowered_digits 8 8 digits (omega arith) in
    let apart : bit_and lower zeros ≡ 0 =
    ap (λ x. bit_and x zeros) lower_is ∙ and_assoc zeros (digits % 2 ^ 64) (repeated 15 8) ∙ and_zero_r (digits % 2 ^ 64) in
    let sum = xor_disjoint lower zeros apart in
    let digits_fit : digits < 2 ^ 64 = xor_lt 64 word zeros fits (lit< tt) in
    let sum_fits : bit_xor lower zeros < 2 ^ 64 = xor_lt 64 lower zeros (mod-lt (digits + without_48 8) (lit< tt)) (lit< tt) in
    let same : bit_xor lower zeros ≡ digits = omega arith in
    sym (flipped_back word zeros) ∙ ap (λ x. bit_xor x zeros) (sym same) ∙ flipped_back lower zeros

-- ---- Weighted sums of digits below 16

-- Two rounds join four digits in bytes below 16.
pub sum_of_four : (digits : ℕ) → bit_and digits 0x0F0F_0F0F ≡ digits
    → bit_and (digits * 0xA01 % 2 ^ 32 / 2 ^ 8) 0x00FF_00FF * 0x64_0001 % 2 ^ 32 / 2 ^ 16 ≡ low_value (low_bytes 4 digits)
unfolding low_bytes
sum_of_four digits halves =
    one_field 10000 16 _ (omega arith) ∙ round 8 100 (lit< tt) 1 _
    ∙ (rw halves at (round 4 10 (lit< tt) 2 digits)) ∙ spelled_by_bytes 4 digits

-- The lowest bytes, moved to the top of the word, keep their sum.
pub sum_at_top : (len word : ℕ) → len ≤ 8 → low_value (low_bytes 8 (at_top len word)) ≡ low_value (low_bytes len word)
unfolding low_bytes
sum_at_top len word few =
    let z = 8 - len in
    let top : z + len ≡ 8 = omega arith in
    let shift : 64 - 8 * len ≡ z * 8 = omega arith in
    let bits : 64 ≡ len * 8 + z * 8 = omega arith in
    let moved : at_top len word ≡ word % 2 ^ (len * 8) * 2 ^ (z * 8) =
    ap₂ (λ s b. word * 2 ^ s % 2 ^ b) shift bits ∙ shift_cut word (len * 8) (z * 8) in
    rw moved (rw top at (low_value_shifted z len (word % 2 ^ (len * 8))) ∙ ap low_value (digits_cut 8 len word))

-- At most four bytes, moved to the top, leave the other four 0.
low_half_of_top : (len word : ℕ) → len ≤ 4 → at_top len word % 2 ^ 32 ≡ 0
low_half_of_top len word few =
    let shift : 64 - 8 * len ≡ 32 - 8 * len + 32 = omega arith in
    let regroup : word * 2 ^ (64 - 8 * len) ≡ word * 2 ^ (32 - 8 * len) * 2 ^ 32 =
    ap (λ k. word * 2 ^ k) shift ∙ ap (λ p. word * p) (pow-add 2 (32 - 8 * len) 32) ∙ sym (mul_assoc word (2 ^ (32 - 8 * len)) (2 ^ 32)) in
    omega (arith, ap (λ x. x % 2 ^ 64) regroup, shift_cut (word * 2 ^ (32 - 8 * len)) 32 32)

-- The mask of the first round keeps them 0.
masked_top : (x : ℕ) → x % 2 ^ 24 ≡ 0 → bit_and x 0x00FF_00FF_00FF_00FF % 2 ^ 32 ≡ 0
masked_top x none =
    let y = x / 2 ^ 24 in
    let split : x ≡ y * 2 ^ 24 + 0 = omega arith in
    let block = and_block 24 y 0xFF_00FF_00 0 0xFF_00FF (lit< tt) (lit< tt) in
    let low = and_mod y 0xFF_00FF_00 8 in
    omega (arith, ap (λ n. bit_and n 0x00FF_00FF_00FF_00FF) split, block, and_zero_l 0xFF_00FF, low, and_zero_r (y % 256))

-- So the upper field alone is their sum.
pub sum_of_high_field : (len word : ℕ) → len ≤ 4 → bit_and (at_top len word) 0x0F0F_0F0F_0F0F_0F0F ≡ at_top len word
    → bit_and (at_top len word * 0xA01 % 2 ^ 64 / 2 ^ 8) 0x00FF_00FF_00FF_00FF * 0x64_0001 % 2 ^ 64 / 2 ^ 48
    ≡ low_value (low_bytes len word)
sum_of_high_field len word few halves =
    let x = at_top len word * 0xA01 % 2 ^ 64 / 2 ^ 8 in
    let hundreds = bit_and x 0x00FF_00FF_00FF_00FF * 0x64_0001 % 2 ^ 64 in
    let bytes : x % 2 ^ 24 ≡ 0 = omega (arith, low_half_of_top len word few) in
    let field : hundreds / 2 ^ 16 % 2 ^ 16 ≡ 0 = omega (arith, masked_top x bytes) in
    omega (arith, and_mask (hundreds / 2 ^ 16) 16, sum_of_fields (at_top len word) (omega arith) halves)
    ∙ sum_at_top len word (omega arith)

-- A product by a shifted factor is one after the shift.
pub factor_shifted : (a p k factor : ℕ) → factor ≡ p * 2 ^ k % 2 ^ 64 → a * factor % 2 ^ 64 ≡ a * 2 ^ k % 2 ^ 64 * p % 2 ^ 64
factor_shifted a p k factor is =
    let regroup : a * (p * 2 ^ k) ≡ a * 2 ^ k * p = omega arith in
    ap (λ f. a * f % 2 ^ 64) is ∙ mul-mod_second a (p * 2 ^ k) (2 ^ 64) ∙ ap (λ x. x % 2 ^ 64) regroup
    ∙ sym (mul-mod_first (a * 2 ^ k) p (2 ^ 64))

-- ---- The word with 48 subtracted from each byte

pub lowered_in_four : (len word ones : ℕ) → len ≤ 4 → len ≤ run_len decimal_table (low_bytes 4 word)
    → ones ≡ (word + 0xCFCF_CFD0) % 2 ^ 32 * 2 ^ (32 - 8 * len) % 2 ^ 32
    → (bit_and ones (repeated 15 4) ≡ ones) × (low_value (low_bytes 4 ones) ≡ low_value (low_bytes len word))
lowered_in_four len word ones few digits is = lowered_bytes 4 4 len word (32 - 8 * len) ones (omega arith) few (omega arith) digits is

pub lowered_sum : (len word ones number : ℕ) → number ≡ low_value (low_bytes 8 ones)
    → len ≤ 8 → len ≤ run_len decimal_table (low_bytes 8 word)
    → ones ≡ (word + without_48 8) % 2 ^ 64 * 2 ^ (64 - 8 * len) % 2 ^ 64 → number ≡ low_value (low_bytes len word)
lowered_sum len word ones number sum few digits is = sum ∙ (lowered_value len word ones few digits is).1

bytes_after : (z k word : ℕ) → drop z (digits_l 256 (z + k) word) ≡ digits_l 256 k (word / 2 ^ (z * 8))
bytes_after zero k word = cc (zero-add k, div-one word)
bytes_after (suc z) k word = search (arith, suc-add, byte_more, bytes_after z k (word / 256), div-div-eq-div-mul)

-- A mask may come before the lowest j bits are cleared.
cleared : (x mask j : ℕ) → bit_and x mask / 2 ^ j * 2 ^ j ≡ bit_and (x / 2 ^ j * 2 ^ j) mask
cleared x mask j =
    let none : x / 2 ^ j * 2 ^ j ≡ x / 2 ^ j * 2 ^ j + 0 = omega arith in
    let block = and_block j (x / 2 ^ j) (mask / 2 ^ j) 0 (mask % 2 ^ j) (pow_pos j) (mod-lt mask (pow_pos j)) in
    rw (and_shr, none) (omega (arith, rw shr_split at block, and_zero_l (mask % 2 ^ j)))

-- The digits after the first z of four: shifted down and up, they are the last bytes.
pub lowered_end : (z word ones : ℕ) → z < 4 → run_len decimal_table (low_bytes 4 word) ≡ 4
    → ones ≡ (word + 0xCFCF_CFD0) % 2 ^ 32 / 2 ^ (8 * z) * 2 ^ (8 * z) % 2 ^ 32
    → (bit_and ones (repeated 15 4) ≡ ones) × (low_value (low_bytes 4 ones) ≡ low_value (drop z (low_bytes 4 word)))
unfolding low_bytes
lowered_end z word ones few full is =
    let k = 4 - z in
    let all : z + k ≡ 4 = omega arith in
    let bits : 8 * z ≡ z * 8 = omega arith in
    let low = word % 2 ^ 32 in
    let lower = (word + 0xCFCF_CFD0) % 2 ^ 32 in
    let lower_is : lower ≡ bit_and low (repeated 15 4) = lowered_digits 4 4 word (omega arith) in
    let small : lower / 2 ^ (z * 8) * 2 ^ (z * 8) < 2 ^ 32 = omega (arith, div-mul-le_self lower (2 ^ (z * 8))) in
    let same = masked 4 (low / 2 ^ (z * 8) * 2 ^ (z * 8)) ones
    (is ∙ ap (λ b. lower / 2 ^ b * 2 ^ b % 2 ^ 32) bits ∙ mod-eq_of_lt small
    ∙ ap (λ x. x / 2 ^ (z * 8) * 2 ^ (z * 8)) lower_is ∙ cleared low (repeated 15 4) (z * 8)) in
    let sum = low_value_shifted z k (low / 2 ^ (z * 8)) ∙ ap low_value (sym (bytes_after z k low)) in
    (same.0, same.1 ∙ (rw all at sum) ∙ ap (λ l. low_value (drop z l)) (digits_cut 8 4 word))

-- Eight digits need no shift.
pub lowered_eight : (word ones : ℕ) → run_len decimal_table (low_bytes 8 word) ≡ 8 → ones ≡ (word + without_48 8) % 2 ^ 64
    → (bit_and ones (repeated 15 8) ≡ ones) × (low_value (low_bytes 8 ones) ≡ low_value (low_bytes 8 word))
lowered_eight word ones full is = lowered_value 8 word ones (omega arith) (omega arith) (is ∙ omega arith)

-- The lowest byte decides whether a word of k bytes more begins with a digit.
lowest_byte : (k word : ℕ) → is_ascii_digit (bit_and word 255) ≡ nat_lt 0 (run_len decimal_table (low_bytes (suc k) word))
unfolding low_bytes
lowest_byte k word = grind (arith, nat_tests, and_mask word 8)

pub first_byte_of_4 : (word : ℕ) → is_ascii_digit (bit_and word 255) ≡ nat_lt 0 (run_len decimal_table (low_bytes 4 word))
first_byte_of_4 = lowest_byte 3
