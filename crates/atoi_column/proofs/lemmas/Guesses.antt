-- Digits after a sign are a text, and the bytes after them end its field.
use Rattle.std.proofs.Common.{◌≡◌, ◌≢◌, ℕ, zero, suc, ◌+◌, ◌-◌, ◌*◌, ◌%◌, ◌^◌, ◌<◌, ◌≤◌, ◌==◌, Bool, true, Some, List, [], ◌∷◌, length, take, drop, get_or, ℤ, refl, sym, ap, ◌∙◌, arith, zero-add, eq-eqb, ne_eqb, length-take-le, bit_and, take-add, ◌++◌}
use Rattle.std.specs.Str.Parse.{IsNumeral, digits_value}
use Rattle.atoi_core.specs.Digit.{decimal_table, is_digit}
use Rattle.atoi_core.specs.IntType.{IntType, bound_of}
use Rattle.atoi_core.specs.Run.{run_len, value}
use Rattle.atoi_core.specs.Sign.{minus_sign, with_sign}
use Rattle.atoi_core.specs.Text.{no_sign, minus, TextWrites}
use Rattle.atoi_core.specs.Words.{word_of}
use Rattle.atoi_core.proofs.lemmas.Runs.{digits_all, run_len-take}
use Rattle.atoi_core.proofs.lemmas.Texts.{own, to_std}
use Rattle.std.proofs.lemmas.List.Sums.{prefix_len-le-length}
use Rattle.atoi_column.specs.FirstField.{after_field}
use Rattle.std.specs.Int.{from_le_bytes, w16}
use Rattle.std.proofs.Math.Pow.{mod-mod-pow}
use Rattle.std.proofs.lemmas.Nat.{and_mask, one_shl}
use Rattle.std.proofs.lemmas.List.{length-take, get_or_past}
use Rattle.atoi_core.proofs.lemmas.LoadedWords.{word_from_eight, word_start}
use Rattle.std.proofs.lemmas.Bool.Decides.{nat_tests}

-- The first bytes of a slice, whose run is as long, are a numeral.
numeral_is : (w : ℕ) (s : List ℕ) {number : ℕ} → 0 < w → w ≤ run_len decimal_table s → number ≡ value decimal_table (take w s)
    → IsNumeral 10 (take w s) × (number ≡ digits_value 10 (take w s))
numeral_is w s some run is =
    let len : length (take w s) ≡ w = length-take-le w s (omega (arith, prefix_len-le-length (is_digit decimal_table) s)) in
    let digits = to_std (take w s) (digits_all decimal_table (take w s) (run_len-take decimal_table w s run ∙ sym len)) in
    ((omega arith, digits), is ∙ own.same (take w s) digits)

pub text_of_digits : (int : IntType) (bytes : List ℕ) (sign width magnitude : ℕ) {number : ℤ} → sign ≤ 1
    → (0 < sign → (int.signed ≡ true) × (take 1 bytes ≡ minus_sign ∷ []))
    → 0 < width → width ≤ run_len decimal_table (drop sign bytes) → magnitude ≡ value decimal_table (take width (drop sign bytes))
    → magnitude ≤ bound_of int (sign == 1) → number ≡ with_sign (sign == 1) magnitude
    → TextWrites int true (take (sign + width) bytes) number
text_of_digits int bytes zero width magnitude few taken some run is fits number_is =
    let numeral = numeral_is width bytes some run is in record {
      sign = no_sign;
      digits = take width bytes;
      parts = ap (λ n. take n bytes) (zero-add width);
      signed = λ e. absurd (cc e);
      plus_taken = λ e. absurd (cc e);
      written = record { numeral = numeral.0; in_range = rw numeral.1 at fits; value_is = rw numeral.1 at number_is };
    }
text_of_digits int bytes (suc zero) width magnitude few taken some run is fits number_is =
    let numeral = numeral_is width (drop 1 bytes) some run is in record {
      sign = minus;
      digits = take width (drop 1 bytes);
      parts = take-add 1 width bytes ∙ ap (λ front. front ++ take width (drop 1 bytes)) (taken (omega arith)).1;
      signed = λ _. (taken (omega arith)).0;
      plus_taken = λ e. absurd (cc e);
      written = record { numeral = numeral.0; in_range = rw numeral.1 at fits; value_is = rw numeral.1 at number_is };
    }
text_of_digits int bytes (suc (suc n)) width magnitude few taken some run is fits number_is = absurd (omega arith)

-- A separator ends a field, also after a carriage return.
pub ended : (is_lines : Bool) (separator : ℕ) (bytes : List ℕ) → 1 ≤ length bytes → word_of (take 1 bytes) ≡ separator
    → after_field is_lines separator bytes ≡ Some (drop 1 bytes)
unfolding word_of
ended is_lines separator [] some is = absurd (omega arith)
ended is_lines separator (byte ∷ bytes) some is = rw (eq-eqb byte separator (omega arith)) refl

pub ended_line : (separator : ℕ) (bytes : List ℕ) → separator ≢ 13 → ((i : ℕ) → get_or bytes i 0 < 256) → 2 ≤ length bytes
    → word_of (take 2 bytes) ≡ 256 * separator + 13 → after_field true separator bytes ≡ Some (drop 2 bytes)
unfolding word_of
ended_line separator [] apart fits some is = absurd (omega arith)
ended_line separator (byte ∷ []) apart fits some is = absurd (omega arith)
ended_line separator (byte ∷ next ∷ bytes) apart fits some is =
    let return : byte ≡ 13 = omega (arith, fits 0) in
    let same : next ≡ separator = omega arith in
    rw (ne_eqb byte separator (omega arith), eq-eqb byte 13 return, eq-eqb next separator same) refl

word_from_two : (s : List ℕ) → length s ≤ 2 → from_le_bytes w16 s ≡ word_of s
word_from_two s few = omega (arith, word_from_eight s (omega arith), get_or_past {X = ℕ})

pub first_of_two : (s bytes : List ℕ) → ((i : ℕ) → get_or s i 0 < 256) → (count : ℕ) → count ≤ 2 → bytes ≡ take 2 s → (two : ℕ)
    → two ≡ from_le_bytes w16 bytes → word_of (take count s) ≡ bit_and two (1 * 2 ^ (8 * count) % 2 ^ 64 - 1)
first_of_two s bytes fits count few loaded two is =
    let eight : 8 * count ≡ count * 8 = omega arith in
    let bits : 16 ≡ (2 - count) * 8 + count * 8 = omega arith in
    let whole : two ≡ word_of s % 2 ^ 16 =
    is ∙ ap (from_le_bytes w16) loaded ∙ word_from_two (take 2 s) (omega (arith, length-take 2 s)) ∙ sym (word_start 2 s fits) in
    sym (word_start count s fits) ∙ sym (mod-mod-pow (word_of s) ((2 - count) * 8) (count * 8))
    ∙ ap (λ b. word_of s % 2 ^ b % 2 ^ (count * 8)) (sym bits) ∙ ap (λ x. x % 2 ^ (count * 8)) (sym whole)
    ∙ sym (and_mask two (count * 8)) ∙ ap (λ x. bit_and two (x - 1)) (sym (one_shl (count * 8) 64 (omega arith)))
    ∙ ap (λ b. bit_and two (1 * 2 ^ b % 2 ^ 64 - 1)) (sym eight)
