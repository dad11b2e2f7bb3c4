-- How many digits and zeros a word begins with.
use Rattle.std.proofs.Common.{◌≡◌, ℕ, zero, suc, ◌+◌, ◌*◌, ◌/◌, ◌%◌, ◌^◌, ◌<◌, Bool, true, false, ◌==◌, refl, sym, ap, ap₂, ◌∙◌, arith, mod-lt, zero-lt-suc, inl, inr}
use Rattle.std.proofs.Math.Dec.{lit<}
use Rattle.std.proofs.lemmas.Bool.{agree_below, agree_below_at, eq-eqb, ne_eqb}
use Rattle.std.proofs.lemmas.Nat.{and_shr, and_mod, or_shr, or_mod, xor_shr, xor_mod, mod-pow-add, and_mask}
use Rattle.std.proofs.Math.Nat.{eq-zero-or-pos, suc-mul}
use Rattle.std.proofs.lemmas.Bool.Decides.{nat_tests}
use Rattle.std.specs.List.{prefix_len}
use Rattle.std.specs.Int.Bits.{bit_and, bit_or, bit_xor}
use Rattle.std.specs.Int.Count.{count_trailing_zeros}
use Rattle.atoi_core.specs.Digit.{decimal_table, is_digit, is_zero}
use Rattle.atoi_core.specs.Run.{run_len, zeros}
use Rattle.atoi_core.specs.Words.{low_bytes}
use Rattle.atoi_core.proofs.lemmas.Calls.{digit_in_range}
use Rattle.atoi_core.proofs.lemmas.WordFields.{zero_field, stopping_field, repeated}

-- ---- Counting digits and zeros

-- A function of words that is exact in the lowest byte (`low`), where no digit carries (`rest`).
pub record Change : Type 0 where
  pub of_word : ℕ → ℕ → ℕ
  pub of_byte : ℕ → ℕ
  pub low : (k word : ℕ) → of_word (suc k) word % 256 ≡ of_byte (word % 256)
  pub rest : (k word : ℕ) → is_digit decimal_table (word % 256) ≡ true → of_word (suc k) word / 256 ≡ of_word k (word / 256)

abbrev pub unchanged : Change
unchanged = record { of_word = λ k word. word; of_byte = λ b. b; low = λ k word. refl; rest = λ k word e. refl }

abbrev pub constant : (c : ℕ) → c < 256 → Change
constant c h = record { of_word = λ k word. repeated c k; of_byte = λ b. c; low = λ k word. omega arith; rest = λ k word e. omega arith }

-- Adds c to each byte; below 199, no digit carries.
abbrev pub added : (c : ℕ) → c < 199 → Change
added c h =
    record {
      of_word = λ k word. word + repeated c k;
      of_byte = λ b. (b + c) % 256;
      low = λ k word. omega arith;
      rest = λ k word e. let digit = digit_in_range (word % 256) e in omega arith;
    }

-- Cuts a change to k bytes.
abbrev pub cut : Change → Change
cut c =
    record {
      of_word = λ k word. c.of_word k word % 2 ^ (k * 8);
      of_byte = c.of_byte;
      low = λ k word. rw (suc-mul k 8) (omega (arith, mod-pow-add (c.of_word (suc k) word) (k * 8) 8, c.low k word));
      rest = λ k word e. rw (suc-mul k 8, ← c.rest k word e) (omega (arith, mod-pow-add (c.of_word (suc k) word) (k * 8) 8));
    }

-- The upper half of each byte.
abbrev pub upper : Change → Change
upper c =
    record {
      of_word = λ k word. bit_and (c.of_word k word / 16) (repeated 15 k);
      of_byte = λ b. c.of_byte b / 16;
      low = λ k word.
          let x = c.of_word (suc k) word / 16 in
          let mask : repeated 15 (suc k) % 256 ≡ 15 = omega arith in
          rw (and_mod x (repeated 15 (suc k)) 8, mask, and_mask (x % 256) 4) (omega (arith, c.low k word));
      rest = λ k word e.
          let x = c.of_word (suc k) word in
          let mask : repeated 15 (suc k) / 256 ≡ repeated 15 k = omega arith in
          let swap : x / 16 / 256 ≡ x / 256 / 16 = omega arith in
          and_shr (x / 16) (repeated 15 (suc k)) 8 ∙ ap₂ bit_and (swap ∙ ap (λ y. y / 16) (c.rest k word e)) mask;
    }

-- A bitwise operator on two changes.
module _ (op : ℕ → ℕ → ℕ)
    (high : (a b g : ℕ) → op a b / 2 ^ g ≡ op (a / 2 ^ g) (b / 2 ^ g))
    (low : (a b g : ℕ) → op a b % 2 ^ g ≡ op (a % 2 ^ g) (b % 2 ^ g)) where
  abbrev pub both : Change → Change → Change
  both c d =
      record {
        of_word = λ k word. op (c.of_word k word) (d.of_word k word);
        of_byte = λ b. op (c.of_byte b) (d.of_byte b);
        low = λ k word. low (c.of_word (suc k) word) (d.of_word (suc k) word) 8 ∙ ap₂ op (c.low k word) (d.low k word);
        rest = λ k word e. high (c.of_word (suc k) word) (d.of_word (suc k) word) 8 ∙ ap₂ op (c.rest k word e) (d.rest k word e);
      }

-- If a change is 0 exactly at the digits that pass p, trailing zero bits count these.
module _ (c : Change) (p : ℕ → Bool) (agree : agree_below (λ b. c.of_byte b == 0) p 256 ≡ true)
    (digit : (b : ℕ) → b < 256 → p b ≡ true → is_digit decimal_table b ≡ true) where
  pub counted : (k word : ℕ) → count_trailing_zeros (k * 8) (c.of_word k word) / 8 ≡ prefix_len p (low_bytes k word)
  unfolding low_bytes count_trailing_zeros
  counted zero word = refl
  counted (suc k) word =
      let byte = word % 256 in
      let marks = c.of_word (suc k) word in
      let fits : byte < 256 = mod-lt word (zero-lt-suc 255) in
      let test = agree_below_at (λ b. c.of_byte b == 0) p 256 byte agree fits in
      let bits : suc k * 8 ≡ 8 + k * 8 = omega arith in
      rw bits
      (elim (eq-zero-or-pos (marks % 256)) [
        | inl e ↦
            (let passes : p byte ≡ true = sym test ∙ eq-eqb (c.of_byte byte) 0 (sym (c.low k word) ∙ e) in
            rw (zero_field 8 (k * 8) marks e, passes, c.rest k word (digit byte fits passes)) (omega (arith, counted k (word / 256))))
        | inr some ↦
            (let fails : p byte ≡ false = sym test ∙ ne_eqb (c.of_byte byte) 0 (omega (arith, c.low k word)) in
            rw fails (omega (arith, stopping_field 8 (k * 8) marks some)))
      ])

pub zero_is_digit : (b : ℕ) → b < 256 → is_zero decimal_table b ≡ true → is_digit decimal_table b ≡ true
zero_is_digit b h e = grind (arith, nat_tests)

-- A zero xor 48 is 0.
zeros_counted : (k word : ℕ) → count_trailing_zeros (k * 8) (bit_xor word (repeated 48 k)) / 8 ≡ zeros decimal_table (low_bytes k word)
zeros_counted = counted (both bit_xor xor_shr xor_mod unchanged (constant 48 (lit< tt))) (is_zero decimal_table) refl zero_is_digit

pub zeros_of_8 : (word : ℕ) → count_trailing_zeros 64 (bit_xor word 0x3030_3030_3030_3030) / 8 ≡ zeros decimal_table (low_bytes 8 word)
zeros_of_8 = zeros_counted 8

pub zeros_of_16 : (word : ℕ) → count_trailing_zeros 128 (bit_xor word 0x3030_3030_3030_3030_3030_3030_3030_3030) / 8
    ≡ zeros decimal_table (low_bytes 16 word)
zeros_of_16 = zeros_counted 16

-- In `check_len_8`, the mask comes before the shift.
pub leading_digits_of_8 : (val : ℕ)
    → let high = bit_and ((val + 0x0606_0606_0606_0606) % 0x1_0000_0000_0000_0000) 0xF0F0_F0F0_F0F0_F0F0 / 16 in
    count_trailing_zeros 64 (bit_xor (bit_or high (bit_and val 0xF0F0_F0F0_F0F0_F0F0)) 0x3333_3333_3333_3333) / 8
    ≡ run_len decimal_table (low_bytes 8 val)
leading_digits_of_8 val =
    let halves = both bit_and and_shr and_mod unchanged (constant 240 (lit< tt)) in
    let marks = both bit_xor xor_shr xor_mod (both bit_or or_shr or_mod (upper (cut (added 6 (lit< tt)))) halves) (constant 51 (lit< tt)) in
    rw (and_shr ((val + 0x0606_0606_0606_0606) % 2 ^ 64) 0xF0F0_F0F0_F0F0_F0F0 4)
    (counted marks (is_digit decimal_table) refl (λ b h e. e) 8 val)
