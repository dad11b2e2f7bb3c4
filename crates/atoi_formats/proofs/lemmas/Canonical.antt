-- What `{}` prints for a number is its text without a needless byte.
use Rattle.std.proofs.Common.{◌≡◌, ◌≢◌, ℕ, suc, ◌+◌, ◌≤◌, Bool, true, false, cond, IsFalse, List, [], ◌∷◌, ◌++◌, decimal, ℤ, pos, negsuc, neg_ℤ, ◌≤ℤ◌, refl, ap, subst, arith}
use Rattle.std.specs.Fmt.{signed_decimal}
use Rattle.std.specs.Str.Parse.{digits_value}
use Rattle.std.proofs.lemmas.Bool.{both_ways, ne_eqb, or_parts}
use Rattle.std.proofs.lemmas.Fmt.{decimal_digit}
use Rattle.std.proofs.lemmas.Int.{ints}
use Rattle.atoi_core.specs.IntType.{IntType}
use Rattle.atoi_core.specs.Laws.{DecimalTexts, least_of}
use Rattle.atoi_core.specs.Sign.{with_sign}
use Rattle.atoi_core.specs.Text.{SignMark, no_sign, plus, minus, sign_bytes, is_minus, is_plus, DigitsWrite, TextWrites, BeginsWithDigit, has_needless_zero}
use Rattle.atoi_formats.specs.Formats.{IsPrinted, has_needless_byte}
use Rattle.std.proofs.lemmas.Bool.Decides.{nat_tests}

-- ---- What is printed has no needless byte

unsigned_shortest : (digits : List ℕ) → BeginsWithDigit digits → IsFalse (has_needless_zero digits) → IsFalse (has_needless_byte digits)
unsigned_shortest [] begins h = refl
unsigned_shortest (digit ∷ []) begins h = refl
unsigned_shortest (digit ∷ next ∷ more) begins h = rw (h, ne_eqb digit 45 (λ same. omega (arith, begins.0))) refl

minus_shortest : (digits : List ℕ) → IsFalse (has_needless_zero digits) → digits ≢ 48 ∷ [] → IsFalse (has_needless_byte (45 ∷ digits))
minus_shortest [] h some = refl
minus_shortest (digit ∷ []) h some = ne_eqb digit 48 (λ same. some (ap (λ byte. byte ∷ []) same))
minus_shortest (digit ∷ next ∷ more) h some = h

-- A negative number of the type has a magnitude in range.
magnitude : (signed : Bool) (greatest n : ℕ) → cond signed (neg_ℤ (pos (greatest + 1))) (pos 0) ≤ℤ negsuc n
    → suc n ≤ greatest + 1
magnitude signed greatest n least = grind (arith, ints)

module _ {int : IntType} (law : DecimalTexts int) where
  printed_shortest : (number : ℤ) → least_of int ≤ℤ number → number ≤ℤ pos int.greatest
      → IsFalse (has_needless_byte (signed_decimal number))
  printed_shortest (pos n) least greatest =
      let le : n ≤ int.greatest = omega (arith, ints) in
      unsigned_shortest (decimal n) (law.begins false (decimal n) (pos n) (law.written false n le)) (law.shortest false n le)
  printed_shortest (negsuc n) least greatest =
      let le = magnitude int.signed int.greatest n least in
      let value = (law.written true (suc n) le).value_is in
      minus_shortest (decimal (suc n)) (law.shortest true (suc n) le) (λ zero. absurd (cc (rw zero at value)))

  pub shortest : {bytes : List ℕ} {number : ℤ} → IsPrinted int bytes number → IsFalse (has_needless_byte bytes)
  shortest {bytes} {number} is = rw is.printed (printed_shortest number is.least is.greatest)

  pub written : {takes_plus : Bool} {bytes : List ℕ} {number : ℤ} → IsPrinted int bytes number → TextWrites int takes_plus bytes number
  written {takes_plus} {bytes} {number} is = rw is.printed (law.text takes_plus number is.least is.greatest)

-- ---- A text without a needless byte is printed

no_needless_zero : (sign : SignMark) (digits : List ℕ) → (is_plus sign ≡ true → false ≡ true)
    → IsFalse (has_needless_byte (sign_bytes sign ++ digits)) → IsFalse (has_needless_zero digits)
no_needless_zero no_sign [] none h = refl
no_needless_zero no_sign (digit ∷ []) none h = refl
no_needless_zero no_sign (digit ∷ next ∷ more) none h = (or_parts _ _ h).0
no_needless_zero plus digits none h = absurd (cc (none refl))
no_needless_zero minus [] none h = refl
no_needless_zero minus (digit ∷ []) none h = refl
no_needless_zero minus (digit ∷ next ∷ more) none h = h

pub in_range : (signed is_negative : Bool) (greatest n : ℕ) → (is_negative ≡ true → signed ≡ true)
    → n ≤ cond is_negative (greatest + 1) greatest
    → (cond signed (neg_ℤ (pos (greatest + 1))) (pos 0) ≤ℤ with_sign is_negative n) × (with_sign is_negative n ≤ℤ pos greatest)
in_range signed is_negative greatest n has le = grind (arith, ints)

-- Digits after a minus without a needless byte do not spell zero.
not_zero : {int : IntType} → DecimalTexts int → (sign : SignMark) (digits : List ℕ) (number : ℤ)
    → DigitsWrite int (is_minus sign) digits number
    → IsFalse (has_needless_zero digits) → IsFalse (has_needless_byte (sign_bytes sign ++ digits)) → is_minus sign ≡ true → number ≢ pos 0
not_zero law no_sign digits number written short h is zero = absurd (cc)
not_zero law plus digits number written short h is zero = absurd (cc)
not_zero {int} law minus digits number written short h is zero =
    let digits_are = law.only true digits 0 (subst (DigitsWrite int true digits) zero written) short in
    both_ways (has_needless_byte (45 ∷ digits)) h (rw (digits_are, decimal_digit 0 (omega arith)) refl)

pub printed : {int : IntType} → DecimalTexts int → {bytes : List ℕ} {number : ℤ} → TextWrites int false bytes number
    → IsFalse (has_needless_byte bytes) → IsPrinted int bytes number
printed {int} law {bytes} {number} text h =
    let short = subst (λ bytes. IsFalse (has_needless_byte bytes)) text.parts h in
    let zeros = no_needless_zero text.sign text.digits text.plus_taken short in
    let range = in_range int.signed (is_minus text.sign) int.greatest (digits_value 10 text.digits) text.signed text.written.in_range in
    record {
      printed = law.only_text bytes number text zeros (not_zero law text.sign text.digits number text.written zeros short);
      least = rw text.written.value_is range.0;
      greatest = rw text.written.value_is range.1;
    }
