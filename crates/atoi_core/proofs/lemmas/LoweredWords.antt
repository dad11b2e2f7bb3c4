-- Words of digits with 48 subtracted from each byte.
use Rattle.std.proofs.Common.{◌≡◌, ℕ, zero, suc, ◌+◌, ◌-◌, ◌*◌, ◌/◌, ◌%◌, ◌^◌, ◌<◌, ◌≤◌, length, refl, sym, ◌∙◌, arith, lit<, mod-lt, zero-lt-suc, Bool, true, false, cond, ap, ap₂}
use Rattle.std.proofs.Math.Nat.{mul-mod_left, mul-div_cancel, suc-mul, suc-add, zero-add, mul-one}
use Rattle.std.proofs.Math.Pow.{mod-mod-pow}
use Rattle.std.proofs.lemmas.Nat.{pow_pos, pow-add, mod-pow-add, and_mask, and_block, shr_split, and_shr, and_mod, or_shr, or_mod, and_assoc, mul-mod_first}
use Rattle.std.specs.Int.Bits.{bit_and, and_zero_r, bit_or, and_self}
use Rattle.std.specs.Int.Count.{count_trailing_zeros}
use Rattle.std.specs.List.{prefix_len}
use Rattle.std.specs.Simd.Lanes.{digits_l}
use Rattle.atoi_core.specs.Digit.{decimal_table, is_digit}
use Rattle.atoi_core.specs.Run.{run_len}
use Rattle.atoi_core.specs.Words.{low_bytes, low_value}
use Rattle.atoi_core.proofs.lemmas.Calls.{digit_in_range}
use Rattle.atoi_core.proofs.lemmas.WordFields.{repeated, digits_cut, low_value_shifted, byte_more, two_rounds}
use Rattle.atoi_core.proofs.lemmas.WordRuns.{Change, constant, added, cut, both, counted}

-- This constant subtracts 48 from each of k bytes.
abbrev pub without_48 : ℕ → ℕ
without_48 zero = 1
without_48 (suc k) = 256 * without_48 k - 48

pub without_48-some : (k : ℕ) → 1 ≤ without_48 k
without_48-some zero = omega arith
without_48-some (suc k) = let some = without_48-some k in omega arith

-- Subtracts 48 from each byte. No digit borrows.
abbrev pub lowered : Change
lowered =
    record {
      of_word = λ k word. word + without_48 k;
      of_byte = λ b. (b + 208) % 256;
      low = λ k word. let some = without_48-some k in omega arith;
      rest = λ k word e.
          let digit = digit_in_range (word % 256) e in
          omega arith;
    }

-- The marks of `leading_digits`.
abbrev pub marks_in : ℕ → ℕ → ℕ
marks_in k word = bit_and (bit_or ((word + repeated 70 k) % 2 ^ (k * 8)) ((word + without_48 k) % 2 ^ (k * 8))) (repeated 128 k)

pub marks_counted : (k word : ℕ) → count_trailing_zeros (k * 8) (marks_in k word) / 8 ≡ run_len decimal_table (low_bytes k word)
marks_counted =
    let marks =
    both bit_and and_shr and_mod (both bit_or or_shr or_mod (cut (added 70 (lit< tt))) (cut lowered)) (constant 128 (lit< tt)) in
    counted marks (is_digit decimal_table) refl (λ b h e. e)

pub marks_of_8 : (word : ℕ) → count_trailing_zeros 64 (marks_in 8 word) / 8 ≡ run_len decimal_table (low_bytes 8 word)
marks_of_8 = marks_counted 8

-- Two rounds and a sum of the two fields, for digits in bytes below 16.
pub sum_of_fields : (digits : ℕ) → digits < 2 ^ 64 → bit_and digits 0x0F0F_0F0F_0F0F_0F0F ≡ digits
    → let tens = digits * 0xA01 % 2 ^ 64 / 2 ^ 8 in
    let hundreds = bit_and tens 0x00FF_00FF_00FF_00FF * 0x64_0001 % 2 ^ 64 in
    bit_and (hundreds / 2 ^ 16) 0xFFFF * 10000 + hundreds / 2 ^ 48 ≡ low_value (low_bytes 8 digits)
sum_of_fields digits fits halves =
    let hundreds = bit_and (digits * 0xA01 % 2 ^ 64 / 2 ^ 8) 0x00FF_00FF_00FF_00FF * 0x64_0001 % 2 ^ 64 in
    let whole : digits * 2 ^ (64 - 8 * 8) % 2 ^ 64 ≡ digits = omega arith in
    let spells = rw (whole, halves) at (two_rounds digits 8 (omega arith)) in
    omega (arith, and_mask (hundreds / 2 ^ 16) 16)

length-digits : (base k word : ℕ) → length (digits_l base k word) ≡ k
length-digits base zero word = refl
length-digits base (suc k) word = cc (length-digits base k (word / base))

pub low_value_masked : (k word : ℕ) → low_value (digits_l 256 k (bit_and word (repeated 15 k))) ≡ low_value (digits_l 256 k word)
low_value_masked zero word = refl
low_value_masked (suc k) word =
    let block =
    rw (shr_split word 8) at (and_block 8 (word / 256) (repeated 15 k) (word % 256) 15 (mod-lt word (zero-lt-suc 255)) (lit< tt)) in
    let low : bit_and word (repeated 15 (suc k)) % 256 % 16 ≡ word % 256 % 16 = omega (arith, block, and_mask (word % 256) 4) in
    let rest : bit_and word (repeated 15 (suc k)) / 256 ≡ bit_and (word / 256) (repeated 15 k) =
    omega (arith, block, and_mask (word % 256) 4) in
    cc (
      low,
      rest,
      length-digits 256 k (word / 256),
      length-digits 256 k (bit_and (word / 256) (repeated 15 k)),
      low_value_masked k (word / 256),
    )

pub shift_cut : (a j z : ℕ) → a * 2 ^ z % 2 ^ (j + z) ≡ a % 2 ^ j * 2 ^ z
shift_cut a j z = rw (mod-pow-add, mul-mod_left, mul-div_cancel a (pow_pos z)) (omega arith)

pub first_passes : (t : Bool) (n m : ℕ) → suc n ≤ cond t (1 + m) 0 → (t ≡ true) × (n ≤ m)
first_passes true n m h = (refl, omega arith)
first_passes false n m h = absurd (omega arith)

-- A digit's lower half is the byte minus 48.
pub lower_half : (b : ℕ) → is_digit decimal_table b ≡ true → bit_and b 15 ≡ (b + 208) % 256
lower_half b digit = and_mask b 4 ∙ (let range = digit_in_range b digit in omega arith)

-- Subtracting 48 from k digits leaves their lower halves.
pub lowered_digits : (n k word : ℕ) → k ≤ prefix_len (is_digit decimal_table) (digits_l 256 n word)
    → (word + without_48 n) % 2 ^ (k * 8) ≡ bit_and (word % 2 ^ (k * 8)) (repeated 15 k)
lowered_digits n zero word digits = omega (arith, and_zero_r (word % 2 ^ (zero * 8)))
lowered_digits zero (suc k) word digits = absurd (omega arith)
lowered_digits (suc n) (suc k) word digits =
    let byte = word % 256 in
    let run = prefix_len (is_digit decimal_table) (digits_l 256 n (word / 256)) in
    let passes = first_passes (is_digit decimal_table byte) k run digits in
    let block = and_block 8 (word / 256 % 2 ^ (k * 8)) (repeated 15 k) byte 15 (mod-lt word (zero-lt-suc 255)) (lit< tt) in
    rw (suc-mul k 8)
    (mod-pow-add (word + without_48 (suc n)) (k * 8) 8
    ∙ ap₂ (λ rest low. rest * 256 + low)
    (ap (λ x. x % 2 ^ (k * 8)) (lowered.rest n word passes.0) ∙ lowered_digits n k (word / 256) passes.1)
    (lowered.low n word ∙ sym (lower_half byte passes.0))
    ∙ sym block ∙ ap (λ x. bit_and x (repeated 15 (suc k))) (sym (mod-pow-add word (k * 8) 8)))

shifted_halves : (z k word : ℕ) → bit_and word (repeated 15 k) * 2 ^ (z * 8) ≡ bit_and (word * 2 ^ (z * 8)) (repeated 15 (z + k))
shifted_halves zero k word = cc (zero-add k, mul-one word, mul-one (bit_and word (repeated 15 k)))
shifted_halves (suc z) k word =
    let next : word * (256 * 2 ^ (z * 8)) ≡ word * 2 ^ (z * 8) * 256 + 0 = omega arith in
    rw (suc-add z k, byte_more, next)
    (omega (arith, shifted_halves z k word, and_block 8 (word * 2 ^ (z * 8)) (repeated 15 (z + k)) 0 15 (lit< tt) (lit< tt)))

-- Masked bytes are below 16, and keep the sum.
pub masked : (size x ones : ℕ) → ones ≡ bit_and x (repeated 15 size)
    → (bit_and ones (repeated 15 size) ≡ ones) × (low_value (low_bytes size ones) ≡ low_value (low_bytes size x))
unfolding low_bytes
masked size x ones is = (
  cc (is, and_assoc (repeated 15 size) x (repeated 15 size), and_self (repeated 15 size)),
  ap (λ y. low_value (digits_l 256 size y)) is ∙ low_value_masked size x,
)

-- So are digits minus 48 that are shifted to the top of `size` bytes.
pub lowered_bytes : (width size len word k ones : ℕ) → size ≤ width → len ≤ size → k ≡ (size - len) * 8
    → len ≤ run_len decimal_table (low_bytes width word) → ones ≡ (word + without_48 width) % 2 ^ (width * 8) * 2 ^ k % 2 ^ (size * 8)
    → (bit_and ones (repeated 15 size) ≡ ones) × (low_value (low_bytes size ones) ≡ low_value (low_bytes len word))
unfolding low_bytes
lowered_bytes width size len word k ones small few k_is digits is =
    let z = size - len in
    let low = word % 2 ^ (len * 8) in
    let lower = word + without_48 width in
    let top : z + len ≡ size = omega arith in
    let bits : size * 8 ≡ len * 8 + k = omega arith in
    let word_bits : width * 8 ≡ (width - len) * 8 + len * 8 = omega arith in
    let e : ones ≡ bit_and (low * 2 ^ (z * 8)) (repeated 15 size) =
    is ∙ ap (λ e. lower % 2 ^ (width * 8) * 2 ^ k % 2 ^ e) bits ∙ shift_cut (lower % 2 ^ (width * 8)) (len * 8) k
    ∙ ap₂ (λ d e. lower % 2 ^ d % 2 ^ (len * 8) * 2 ^ e) word_bits k_is
    ∙ ap (λ x. x * 2 ^ (z * 8)) (mod-mod-pow lower ((width - len) * 8) (len * 8) ∙ lowered_digits width len word digits)
    ∙ shifted_halves z len low ∙ ap (λ n. bit_and (low * 2 ^ (z * 8)) (repeated 15 n)) top in
    let same = masked size (low * 2 ^ (z * 8)) ones e in
    (same.0, same.1 ∙ (rw top at (low_value_shifted z len low)) ∙ ap low_value (digits_cut 8 len word))

pub lowered_value : (len word ones : ℕ) → len ≤ 8 → len ≤ run_len decimal_table (low_bytes 8 word)
    → ones ≡ (word + without_48 8) % 2 ^ 64 * 2 ^ (64 - 8 * len) % 2 ^ 64
    → (bit_and ones (repeated 15 8) ≡ ones) × (low_value (low_bytes 8 ones) ≡ low_value (low_bytes len word))
lowered_value len word ones few digits is = lowered_bytes 8 8 len word (64 - 8 * len) ones (omega arith) few (omega arith) digits is

pub shifted_twice : (a len : ℕ) → len < 8 → a * 2 ^ (56 - 8 * len) % 2 ^ 64 * 2 ^ 8 % 2 ^ 64 ≡ a * 2 ^ (64 - 8 * len) % 2 ^ 64
shifted_twice a len few =
    let p = 2 ^ (56 - 8 * len) in
    let same : 56 - 8 * len + 8 ≡ 64 - 8 * len = omega arith in
    let whole : p * 2 ^ 8 ≡ 2 ^ (64 - 8 * len) = cc (pow-add 2 (56 - 8 * len) 8, same) in
    let regroup : a * p * 2 ^ 8 ≡ a * (p * 2 ^ 8) = omega arith in
    cc (mul-mod_first (a * p) (2 ^ 8) (2 ^ 64), regroup, whole)
