-- A number of JSON is a zero, or what a prefix parse finds.
use Rattle.std.proofs.Common.{◌≡◌, ◌≢◌, ℕ, ◌+◌, ◌≤◌, Bool, true, false, cond, IsFalse, List, [], ◌∷◌, ◌++◌, ℤ, pos, neg_ℤ, ◌≤ℤ◌, refl, sym, ap, ◌∙◌, append_assoc, get_or, le-leb, arith, rules}
use Rattle.std.specs.Str.Parse.{IsNumeral, digits_value}
use Rattle.std.proofs.lemmas.Bool.{both_ways, or_parts, ne_eqb}
use Rattle.std.proofs.lemmas.Fmt.{decimal_digit}
use Rattle.std.proofs.lemmas.Int.{ints}
use Rattle.std.proofs.lemmas.Str.Parse.{digit_from_value}
use Rattle.atoi_core.specs.Digit.{decimal_table, is_digit}
use Rattle.atoi_core.specs.IntType.{IntType}
use Rattle.atoi_core.specs.Laws.{DecimalTexts, least_of}
use Rattle.atoi_core.specs.Sign.{with_sign}
use Rattle.atoi_core.specs.Text.{SignMark, no_sign, plus, minus, sign_bytes, is_minus, is_plus, TextWrites, BeginsWithDigit, has_needless_zero}
use Rattle.atoi_formats.specs.Formats.{WritesInJson, goes_on, minus_if}
use Rattle.atoi_formats.proofs.lemmas.Canonical.{in_range}
use Rattle.std.proofs.lemmas.Bool.Decides.{nat_tests}

pub no_digit : (rest : List ℕ) → IsFalse (goes_on rest) → ¬ BeginsWithDigit rest
no_digit [] ends begins = begins
no_digit (byte ∷ rest) ends begins =
    both_ways (is_digit decimal_table byte) (or_parts _ _ ends).0 (rw (le-leb 48 byte begins.0, le-leb byte 57 begins.1) refl)

-- ---- A zero at the start, perhaps after a minus

zero_value : (is_negative : Bool) → with_sign is_negative 0 ≡ pos 0
zero_value is_negative = grind arith

pub zero_written : (int : IntType) (is_negative : Bool) → WritesInJson int (minus_if is_negative ++ 48 ∷ []) (pos 0)
zero_written int is_negative = record {
  is_negative = is_negative;
  digits = 48 ∷ [];
  parts = refl;
  numeral = search rules;
  shortest = refl;
  value_is = sym (zero_value is_negative);
  least = least int.signed int.greatest;
  greatest = omega (arith, ints);
}
  where
    least : (signed : Bool) (greatest : ℕ) → cond signed (neg_ℤ (pos (greatest + 1))) (pos 0) ≤ℤ pos 0
    least signed greatest = grind (arith, ints)

-- Digits that begin with a zero and have no needless one are that zero.
one_zero : (digits rest more : List ℕ) → IsNumeral 10 digits → IsFalse (has_needless_zero digits)
    → digits ++ rest ≡ 48 ∷ more → (digits ≡ 48 ∷ []) × (rest ≡ more)
one_zero [] rest more numeral short parts = absurd (omega (arith, numeral.0))
one_zero (digit ∷ []) rest more numeral short parts = (cc, cc)
one_zero (digit ∷ next ∷ digits) rest more numeral short parts =
    let zero : digit ≡ 48 = cc in absurd (both_ways _ short (rw zero refl))

no_minus : (digits rest more : List ℕ) → IsNumeral 10 digits → digits ++ rest ≢ 45 ∷ more
no_minus [] rest more numeral parts = omega (arith, numeral.0)
no_minus (digit ∷ digits) rest more numeral parts =
    let same : digit ≡ 45 = cc in omega (arith, digit_from_value digit numeral.1.0)

one_signed_zero : (is_negative other : Bool) (digits rest more : List ℕ) → IsNumeral 10 digits → IsFalse (has_needless_zero digits)
    → (minus_if is_negative ++ digits) ++ rest ≡ minus_if other ++ 48 ∷ more → (digits ≡ 48 ∷ []) × (rest ≡ more)
one_signed_zero true true digits rest more numeral short parts = one_zero digits rest more numeral short (cc)
one_signed_zero true false digits rest more numeral short parts = absurd (omega (arith, ap (λ bytes. get_or bytes 0 0) parts))
one_signed_zero false true digits rest more numeral short parts = absurd (no_minus digits rest (48 ∷ more) numeral parts)
one_signed_zero false false digits rest more numeral short parts = one_zero digits rest more numeral short parts

-- A number that begins as a zero does is that zero.
pub only_zero : {int : IntType} {bytes : List ℕ} {number : ℤ} → WritesInJson int bytes number
    → (is_negative : Bool) (rest more : List ℕ) → bytes ++ rest ≡ minus_if is_negative ++ 48 ∷ more
    → (number ≡ pos 0) × (rest ≡ more)
only_zero {int} {bytes} {number} is is_negative rest more parts =
    let found = one_signed_zero is.is_negative is_negative is.digits rest more is.numeral is.shortest (rw is.parts at parts) in
    (is.value_is ∙ ap (λ digits. with_sign is.is_negative (digits_value 10 digits)) found.0 ∙ zero_value is.is_negative, found.1)

-- ---- Other numbers

-- The text begins neither with a zero, nor with a minus and a zero.
abbrev pub BeginsWithoutZero : List ℕ → Type 0
BeginsWithoutZero text = (is_negative : Bool) (rest : List ℕ) → text ≢ minus_if is_negative ++ 48 ∷ rest

negative_range : (signed : Bool) (greatest n : ℕ) → n ≢ 0 → cond signed (neg_ℤ (pos (greatest + 1))) (pos 0) ≤ℤ neg_ℤ (pos n)
    → (signed ≡ true) × (n ≤ greatest + 1)
negative_range signed greatest n some least = grind (arith, ints)

no_needless : (digits : List ℕ) → ((rest : List ℕ) → digits ≢ 48 ∷ rest) → IsFalse (has_needless_zero digits)
no_needless [] other = refl
no_needless (digit ∷ []) other = refl
no_needless (digit ∷ next ∷ more) other = ne_eqb digit 48 (λ same. other (next ∷ more) (ap (λ byte. byte ∷ next ∷ more) same))

-- The sign that a type without a plus can have.
minus_bytes : (sign : SignMark) → (is_plus sign ≡ true → false ≡ true) → sign_bytes sign ≡ minus_if (is_minus sign)
minus_bytes sign none = grind arith

module _ {int : IntType} where
  signed_text : DecimalTexts int → (is_negative : Bool) (digits : List ℕ) → IsNumeral 10 digits → IsFalse (has_needless_zero digits)
      → least_of int ≤ℤ with_sign is_negative (digits_value 10 digits) → with_sign is_negative (digits_value 10 digits) ≤ℤ pos int.greatest
      → BeginsWithoutZero (minus_if is_negative ++ digits)
      → TextWrites int false (minus_if is_negative ++ digits) (with_sign is_negative (digits_value 10 digits))
  signed_text law false digits numeral short least greatest other = record {
    sign = no_sign;
    digits = digits;
    parts = refl;
    signed = λ is. absurd (cc);
    plus_taken = λ is. absurd (cc);
    written = record { numeral = numeral; in_range = omega (arith, ints); value_is = refl };
  }
  signed_text law true digits numeral short least greatest other =
      let some : digits_value 10 digits ≢ 0 = λ none.
      let is_zero = law.only false digits 0 (record { numeral = numeral; in_range = omega arith; value_is = ap pos (sym none) }) short in
      other true [] (ap (λ digits. 45 ∷ digits) (is_zero ∙ decimal_digit 0 (omega arith))) in
      let range = negative_range int.signed int.greatest (digits_value 10 digits) some least in
      record {
        sign = minus;
        digits = digits;
        parts = refl;
        signed = λ is. range.0;
        plus_taken = λ is. absurd (cc);
        written = record { numeral = numeral; in_range = range.1; value_is = refl };
      }

  pub to_text : DecimalTexts int → {bytes : List ℕ} {number : ℤ} → WritesInJson int bytes number
      → BeginsWithoutZero bytes → TextWrites int false bytes number
  to_text law {bytes} {number} is other =
      rw (is.parts, is.value_is) (signed_text law is.is_negative is.digits is.numeral is.shortest
      (rw is.value_is at is.least) (rw is.value_is at is.greatest) (rw is.parts at other))

  pub of_text : {bytes : List ℕ} {number : ℤ} → TextWrites int false bytes number → BeginsWithoutZero bytes
      → WritesInJson int bytes number
  of_text {bytes} {number} text other =
      let is_negative = is_minus text.sign in
      let parts : bytes ≡ minus_if is_negative ++ text.digits = rw (← minus_bytes text.sign text.plus_taken) text.parts in
      let range = in_range int.signed is_negative int.greatest (digits_value 10 text.digits) text.signed text.written.in_range in
      record {
        is_negative = is_negative;
        digits = text.digits;
        parts = parts;
        numeral = text.written.numeral;
        shortest = no_needless text.digits (λ rest is. other is_negative rest (rw is at parts));
        value_is = text.written.value_is;
        least = rw text.written.value_is range.0;
        greatest = rw text.written.value_is range.1;
      }

pub without_zero : {text : List ℕ} (bytes rest : List ℕ) → text ≡ bytes ++ rest → BeginsWithoutZero text → BeginsWithoutZero bytes
without_zero {text} bytes rest parts other = λ is_negative more begins.
    other is_negative (more ++ rest) (parts ∙ ap (λ bytes. bytes ++ rest) begins ∙ append_assoc (minus_if is_negative) (48 ∷ more) rest)
