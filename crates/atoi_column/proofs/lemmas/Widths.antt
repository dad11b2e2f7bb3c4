-- Numbers of a known number of digits.
use Rattle.std.proofs.Common.{◌≡◌, ℕ, suc, ◌+◌, ◌-◌, ◌*◌, ◌/◌, ◌%◌, ◌^◌, ◌<◌, ◌≤◌, ◌==◌, true, List, length, take, drop, get_or, refl, sym, ap, ap₂, ◌∙◌, arith}
use Rattle.std.proofs.Math.Nat.{mod-add-mod, add-mod-mod, zero-mod, add-mul-mod_self_right, zero-add, zero-div, mul-mod_left, mod-eq_of_lt}
use Rattle.std.proofs.Math.Pow.{mod-mod-pow}
use Rattle.std.proofs.lemmas.Bool.{agree_below, agree_below_at, eqb-true}
use Rattle.std.proofs.lemmas.Nat.{pow_pos, one_shl, shl_whole, shl-shr, shr_le, shr_high, shr_split, field_of, and_le_r, and_mask, and_shr, and_mod, or_shr, or_mod, le_or_r, mul-mod_first, mul-mod_second}
use Rattle.std.specs.Int.Bits.{bit_and, bit_or, or_zero_l}
use Rattle.atoi_core.specs.Digit.{decimal_table, is_digit}
use Rattle.atoi_core.specs.Run.{run_len, value}
use Rattle.atoi_core.specs.Words.{low_bytes, low_value, word_of}
use Rattle.atoi_core.proofs.lemmas.LoadedWords.{bytes_above, fits_after, loaded_part, word_start}
use Rattle.atoi_core.proofs.lemmas.WordWindows.{first_run}
use Rattle.atoi_core.proofs.lemmas.Runs.{prefix_len-drop, value-take-add}
use Rattle.atoi_core.proofs.lemmas.WordFields.{repeated, zero_field}
use Rattle.atoi_core.proofs.lemmas.LoweredWords.{lowered_digits, lowered_value, marks_of_8, shift_cut, shifted_twice, sum_of_fields, without_48}

-- ---- The first bytes of a word, from each of which 48 is subtracted

-- Constants, compared for each width.
compared : (f g : ℕ → ℕ) → agree_below (λ n. f n == g n) (λ _. true) 9 ≡ true → (w : ℕ) → w ≤ 8 → f w ≡ g w
compared f g same w few = eqb-true _ _ (agree_below_at (λ n. f n == g n) (λ _. true) 9 w same (omega arith))

abbrev zeros_in : ℕ → ℕ
zeros_in w = 0x3030_3030_3030_3030 / 2 ^ (64 - 8 * w)

abbrev marks_in_first : ℕ → ℕ
marks_in_first w = 0x8080_8080_8080_8080 / 2 ^ (64 - 8 * w)

-- A shift by w bytes in two steps.
abbrev lifted : ℕ → ℕ → ℕ
lifted w x = x * 2 ^ (56 - (64 - 8 * w)) % 2 ^ 64 * 2 ^ 8 % 2 ^ 64

module _ (w count : ℕ) (some : 0 < w) (few : w + count ≤ 8) where
  bits : 64 ≡ (8 - w) * 8 + w * 8
  bits = omega arith

  start_of : (x : ℕ) → x % 2 ^ 64 % 2 ^ (w * 8) ≡ x % 2 ^ (w * 8)
  start_of x = ap (λ b. x % 2 ^ b % 2 ^ (w * 8)) bits ∙ mod-mod-pow x ((8 - w) * 8) (w * 8)

  -- The `count` bytes after the first w.
  field_in : (x : ℕ) → x % 2 ^ 64 / 2 ^ (w * 8) % 2 ^ (count * 8) ≡ x / 2 ^ (w * 8) % 2 ^ (count * 8)
  field_in x =
      let split : (8 - w) * 8 ≡ (8 - w - count) * 8 + count * 8 = omega arith in
      ap (λ b. x % 2 ^ b / 2 ^ (w * 8) % 2 ^ (count * 8)) bits
      ∙ ap (λ y. y % 2 ^ (count * 8)) (field_of x ((8 - w) * 8) (w * 8) ∙ ap (λ b. x / 2 ^ (w * 8) % 2 ^ b) split)
      ∙ mod-mod-pow (x / 2 ^ (w * 8)) ((8 - w - count) * 8) (count * 8)

  lifted_is : (x : ℕ) → x < 2 ^ (count * 8) → lifted w x ≡ x * 2 ^ (w * 8)
  lifted_is x below =
      let first : 56 - (64 - 8 * w) ≡ 56 - 8 * (8 - w) = omega arith in
      let all : 64 - 8 * (8 - w) ≡ w * 8 = omega arith in
      ap (λ e. x * 2 ^ e % 2 ^ 64 * 2 ^ 8 % 2 ^ 64) first ∙ shifted_twice x (8 - w) (omega arith)
      ∙ ap (λ e. x * 2 ^ e % 2 ^ 64) all ∙ shl_whole x (count * 8) (w * 8) 64 below (omega arith)

  module _ (ends word digits : ℕ) (fits : word < 2 ^ 64) (ends_fit : ends < 2 ^ (count * 8))
      (is : digits ≡ ((word + (2 ^ 64 - lifted w ends)) % 2 ^ 64 + (2 ^ 64 - zeros_in w)) % 2 ^ 64) where
    back : (digits + zeros_in w + ends * 2 ^ (w * 8)) % 2 ^ 64 ≡ word
    back =
        let small = shr_le 0x3030_3030_3030_3030 (64 - 8 * w) in
        ap (λ e. (digits + zeros_in w + e) % 2 ^ 64) (sym (lifted_is ends ends_fit)) ∙ omega arith

    with_more : (c d : ℕ) → (zeros_in w + c) % 2 ^ (w * 8) ≡ d % 2 ^ (w * 8) → (digits + d) % 2 ^ (w * 8) ≡ (word + c) % 2 ^ (w * 8)
    with_more c d same =
        let regroup : digits + (zeros_in w + c) ≡ digits + zeros_in w + c = omega arith in
        let start = sym (add-mul-mod_self_right (digits + zeros_in w) ends (2 ^ (w * 8)))
        ∙ sym (start_of _) ∙ ap (λ x. x % 2 ^ (w * 8)) back in
        sym (add-mod-mod digits d (2 ^ (w * 8))) ∙ ap (λ x. (digits + x) % 2 ^ (w * 8)) (sym same)
        ∙ add-mod-mod digits (zeros_in w + c) (2 ^ (w * 8))
        ∙ ap (λ x. x % 2 ^ (w * 8)) regroup ∙ sym (mod-add-mod (digits + zeros_in w) (2 ^ (w * 8)) c)
        ∙ ap (λ x. (x + c) % 2 ^ (w * 8)) start ∙ mod-add-mod word (2 ^ (w * 8)) c

    low : digits % 2 ^ (w * 8) ≡ (word + without_48 8) % 2 ^ (w * 8)
    low =
        let none : digits + 0 ≡ digits = omega arith in
        ap (λ x. x % 2 ^ (w * 8)) (sym none)
        ∙ with_more (without_48 8) 0 (compared (λ n. (zeros_in n + without_48 8) % 2 ^ (n * 8)) (λ n. 0 % 2 ^ (n * 8)) refl w (omega arith))

    module _ (above others : ℕ) (above_is : above ≡ (digits + 0x7676_7676_7676_7676 / 2 ^ (64 - 8 * w)) % 2 ^ 64)
        (others_are : others ≡ lifted w (1 * 2 ^ (8 * count) % 2 ^ 64 - 1))
        (none : bit_and (bit_or above digits) (bit_or (marks_in_first w) others) ≡ 0) where
      ones : others ≡ (2 ^ (count * 8) - 1) * 2 ^ (w * 8)
      ones =
          let eight : 8 * count ≡ count * 8 = omega arith in
          others_are ∙ ap (λ b. lifted w (1 * 2 ^ b % 2 ^ 64 - 1)) eight ∙ ap (λ x. lifted w (x - 1)) (one_shl (count * 8) 64 (omega arith))
          ∙ lifted_is (2 ^ (count * 8) - 1) (omega (arith, pow_pos (count * 8)))

      -- Without a mark, the first bytes are digits.
      pub unmarked : w ≤ run_len decimal_table (low_bytes 8 word)
      unmarked =
          let raised = compared (λ n. (zeros_in n + repeated 70 8) % 2 ^ (n * 8))
          (λ n. 0x7676_7676_7676_7676 / 2 ^ (64 - 8 * n) % 2 ^ (n * 8)) refl w (omega arith) in
          let high = (word + repeated 70 8) % 2 ^ 64 in
          let lower = (word + without_48 8) % 2 ^ 64 in
          let up = start_of (word + repeated 70 8) ∙ sym (with_more (repeated 70 8) _ raised)
          ∙ sym (start_of _) ∙ ap (λ x. x % 2 ^ (w * 8)) (sym above_is) in
          let down = start_of (word + without_48 8) ∙ sym low in
          let marks = compared (λ n. repeated 128 8 % 2 ^ (n * 8)) (λ n. bit_or (marks_in_first n % 2 ^ (n * 8)) 0) refl w (omega arith) in
          let none_other = sym (mul-mod_left (2 ^ (count * 8) - 1) (2 ^ (w * 8))) ∙ ap (λ x. x % 2 ^ (w * 8)) (sym ones) in
          let same : bit_and (bit_or high lower) (repeated 128 8) % 2 ^ (w * 8) ≡ 0 =
          and_mod (bit_or high lower) (repeated 128 8) (w * 8)
          ∙ ap₂ bit_and (or_mod high lower (w * 8) ∙ ap₂ bit_or up down ∙ sym (or_mod above digits (w * 8)))
          (marks ∙ ap (bit_or (marks_in_first w % 2 ^ (w * 8))) none_other ∙ sym (or_mod (marks_in_first w) others (w * 8)))
          ∙ sym (and_mod (bit_or above digits) (bit_or (marks_in_first w) others) (w * 8))
          ∙ ap (λ x. x % 2 ^ (w * 8)) none ∙ zero-mod (2 ^ (w * 8)) in
          let all : w * 8 + (64 - w * 8) ≡ 64 = omega arith in
          omega (arith, marks_of_8 word, rw all at (zero_field (w * 8) (64 - w * 8) _ same))

      ended : word / 2 ^ (w * 8) % 2 ^ (count * 8) ≡ ends
      unfolding low_bytes
      ended =
          let k = count * 8 in
          let high = digits / 2 ^ (w * 8) in
          let fifteen = compared (λ n. suc (repeated 15 n + zeros_in n) - 2 ^ (n * 8)) (λ n. 0) refl w (omega arith) in
          let below : digits % 2 ^ (w * 8) + zeros_in w < 2 ^ (w * 8) =
          omega (arith, fifteen, low ∙ lowered_digits 8 w word unmarked, and_le_r (word % 2 ^ (w * 8)) (repeated 15 w)) in
          let parts : digits + zeros_in w + ends * 2 ^ (w * 8) ≡ (high + ends) * 2 ^ (w * 8) + (digits % 2 ^ (w * 8) + zeros_in w) =
          omega (arith, shr_split digits (w * 8)) in
          let mask : bit_or (marks_in_first w) others / 2 ^ (w * 8) ≡ 2 ^ k - 1 =
          or_shr (marks_in_first w) others (w * 8)
          ∙ ap₂ bit_or (compared (λ n. marks_in_first n / 2 ^ (n * 8)) (λ n. 0) refl w (omega arith))
          (ap (λ x. x / 2 ^ (w * 8)) ones ∙ shl-shr (2 ^ k - 1) (w * 8))
          ∙ or_zero_l (2 ^ k - 1) in
          let both : bit_or (above / 2 ^ (w * 8)) high % 2 ^ k ≡ 0 =
          ap (λ x. x % 2 ^ k) (sym (or_shr above digits (w * 8))) ∙ sym (and_mask (bit_or above digits / 2 ^ (w * 8)) k)
          ∙ ap (bit_and (bit_or above digits / 2 ^ (w * 8))) (sym mask)
          ∙ sym (and_shr (bit_or above digits) (bit_or (marks_in_first w) others) (w * 8))
          ∙ ap (λ x. x / 2 ^ (w * 8)) none ∙ zero-div (2 ^ (w * 8)) in
          let zero_is : high % 2 ^ k ≡ 0 =
          omega (arith, both, or_mod (above / 2 ^ (w * 8)) high k, le_or_r (above / 2 ^ (w * 8) % 2 ^ k) (high % 2 ^ k)) in
          ap (λ x. x / 2 ^ (w * 8) % 2 ^ k) (sym back) ∙ field_in (digits + zeros_in w + ends * 2 ^ (w * 8))
          ∙ ap (λ x. x % 2 ^ k) (ap (λ x. x / 2 ^ (w * 8)) parts ∙ shr_high (high + ends) (w * 8) (digits % 2 ^ (w * 8) + zeros_in w) below)
          ∙ sym (mod-add-mod high (2 ^ k) ends) ∙ ap (λ x. (x + ends) % 2 ^ k) zero_is
          ∙ ap (λ x. x % 2 ^ k) (zero-add ends) ∙ mod-eq_of_lt ends_fit

      pub ended_by : (s : List ℕ) → ((i : ℕ) → get_or s i 0 < 256) → word ≡ word_of (take 8 s) → word_of (take count (drop w s)) ≡ ends
      ended_by s bytes word_is =
          sym (word_start count (drop w s) (fits_after w s bytes)) ∙ ap (λ x. x % 2 ^ (count * 8)) (sym (bytes_above w s bytes))
          ∙ sym (field_in (word_of s)) ∙ ap (λ x. x / 2 ^ (w * 8) % 2 ^ (count * 8)) (word_start 8 s bytes ∙ sym word_is) ∙ ended

      -- Shifted to the top, digits minus 48 are below 16, and keep the sum.
      pub shifted_value : (top : ℕ) → top ≡ digits * 2 ^ (64 - 8 * w) % 2 ^ 64
          → (bit_and top (repeated 15 8) ≡ top) × (low_value (low_bytes 8 top) ≡ low_value (low_bytes w word))
      unfolding low_bytes
      shifted_value top top_is =
          let z = 64 - 8 * w in
          let all : w * 8 + z ≡ 64 = omega arith in
          let cut : (x : ℕ) → x * 2 ^ z % 2 ^ 64 ≡ x % 2 ^ (w * 8) * 2 ^ z = λ x. rw all at (shift_cut x (w * 8) z) in
          let same = low ∙ sym (start_of (word + without_48 8)) in
          lowered_value w word top (omega arith) unmarked
          (top_is ∙ cut digits ∙ ap (λ x. x * 2 ^ z) same ∙ sym (cut ((word + without_48 8) % 2 ^ 64)))

-- A shift of the factor is one of the digits.
pub sum_of_lifted : (digits shift : ℕ) → let top = digits * 2 ^ shift % 2 ^ 64 in bit_and top 0x0F0F_0F0F_0F0F_0F0F ≡ top
    → let tens = digits * (0xA01 * 2 ^ shift % 2 ^ 64) % 2 ^ 64 / 2 ^ 8 in
    let hundreds = bit_and tens 0x00FF_00FF_00FF_00FF * 0x64_0001 % 2 ^ 64 in
    bit_and (hundreds / 2 ^ 16) 0xFFFF * 10000 + hundreds / 2 ^ 48 ≡ low_value (low_bytes 8 top)
sum_of_lifted digits shift halves =
    let regroup : digits * (0xA01 * 2 ^ shift) ≡ digits * 2 ^ shift * 0xA01 = omega arith in
    let factor = mul-mod_second digits (0xA01 * 2 ^ shift) (2 ^ 64)
    ∙ ap (λ x. x % 2 ^ 64) regroup ∙ sym (mul-mod_first (digits * 2 ^ shift) 0xA01 (2 ^ 64)) in
    rw factor (sum_of_fields (digits * 2 ^ shift % 2 ^ 64) (omega arith) halves)

-- ---- The bytes of a slice

pub value_in_word : (w : ℕ) (s : List ℕ) (fits : (i : ℕ) → get_or s i 0 < 256) (first number : ℕ) → first ≡ word_of (take 8 s)
    → w ≤ run_len decimal_table (low_bytes 8 first) → number ≡ low_value (low_bytes w first)
    → (w ≤ run_len decimal_table s) × (number ≡ value decimal_table (take w s))
value_in_word w s fits first number first_is digits is =
    (omega (arith, first_run s fits first first_is), is ∙ loaded_part 8 s fits first first_is w digits)

-- Digits before eight more, and these.
pub joined_values : (front : ℕ) (s : List ℕ) (high low : ℕ) → front + 8 ≤ length s
    → front ≤ run_len decimal_table s → high ≡ value decimal_table (take front s)
    → 8 ≤ run_len decimal_table (drop front s) → low ≡ value decimal_table (take 8 (drop front s))
    → (front + 8 ≤ run_len decimal_table s) × (high * 10 ^ 8 + low ≡ value decimal_table (take (front + 8) s))
joined_values front s high low inside start high_is end low_is = (
  omega (arith, prefix_len-drop (is_digit decimal_table) front s start),
  ap₂ (λ x y. x * 10 ^ 8 + y) high_is low_is ∙ sym (value-take-add decimal_table front 8 s inside),
)
