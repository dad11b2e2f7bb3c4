-- Texts of an integer type, and which bytes write a number.
use Rattle.std.specs.Prelude.{◌≡◌, ℕ, ◌<◌, ◌≤◌, Bool, true, false, ◌==◌, List, [], ◌∷◌, ◌++◌, length, take, drop, ℤ}
use Rattle.std.specs.Char.{IsAsciiDigit}
use Rattle.std.specs.Str.Parse.{IsNumeral, digits_value}
use Rattle.atoi_core.specs.IntType.{IntType, bound_of}
use Rattle.atoi_core.specs.Sign.{plus_sign, minus_sign, with_sign}

-- The sign that may precede the digits.
pub data SignMark : Type 0 where
  no_sign : SignMark
  plus : SignMark
  minus : SignMark

-- The bytes of that sign.
abbrev pub sign_bytes : SignMark → List ℕ
sign_bytes no_sign = []
sign_bytes plus = plus_sign ∷ []
sign_bytes minus = minus_sign ∷ []

abbrev pub is_minus : SignMark → Bool
is_minus no_sign = false
is_minus plus = false
is_minus minus = true

abbrev pub is_plus : SignMark → Bool
is_plus no_sign = false
is_plus plus = true
is_plus minus = false

-- One or more digits, whose value, negated if `is_negative`, is the number and in range. Digits and
-- values are std's.
pub record DigitsWrite (int : IntType) (is_negative : Bool) (digits : List ℕ) (number : ℤ) : Type 0 where
  pub numeral : IsNumeral 10 digits
  pub in_range : digits_value 10 digits ≤ bound_of int is_negative
  pub value_is : number ≡ with_sign is_negative (digits_value 10 digits)

-- An optional sign and digits that write the number: a minus if signed, a plus if `takes_plus`.
pub record TextWrites (int : IntType) (takes_plus : Bool) (s : List ℕ) (number : ℤ) : Type 0 where
  pub sign : SignMark
  pub digits : List ℕ
  pub parts : s ≡ sign_bytes sign ++ digits
  pub signed : is_minus sign ≡ true → int.signed ≡ true
  pub plus_taken : is_plus sign ≡ true → takes_plus ≡ true
  pub written : DigitsWrite int (is_minus sign) digits number

-- The bytes write some number of the type, perhaps with a plus.
pub record IsText (int : IntType) (s : List ℕ) : Type 0 where
  pub number : ℤ
  pub written : TextWrites int true s number

-- The first byte is a decimal digit.
abbrev pub BeginsWithDigit : List ℕ → Type 0
BeginsWithDigit [] = ⊥
BeginsWithDigit (byte ∷ bytes) = IsAsciiDigit byte

-- The first `count` bytes write the number, and no digit follows.
pub record PrefixWrites (Writes : List ℕ → ℤ → Type 0) (s : List ℕ) (number : ℤ) (count : ℕ) : Type 0 where
  pub written : Writes (take count s) number
  pub some : 0 < count
  pub within : count ≤ length s
  pub ends : ¬ BeginsWithDigit (drop count s)

-- Bytes that write the number, then `byte`, then `rest`.
pub record IsNumberThen (Writes : List ℕ → ℤ → Type 0) (s : List ℕ) (number : ℤ) (byte : ℕ) (rest : List ℕ) : Type 0 where
  pub bytes : List ℕ
  pub parts : s ≡ bytes ++ byte ∷ rest
  pub written : Writes bytes number

-- The first `count` bytes are all digits at the start, at least one, and out of range.
pub record IsTooLarge (int : IntType) (is_negative : Bool) (s : List ℕ) (count : ℕ) : Type 0 where
  pub numeral : IsNumeral 10 (take count s)
  pub above : bound_of int is_negative < digits_value 10 (take count s)
  pub within : count ≤ length s
  pub ends : ¬ BeginsWithDigit (drop count s)

-- A zero and more digits: a zero that could be left out.
abbrev pub has_needless_zero : List ℕ → Bool
has_needless_zero [] = false
has_needless_zero (digit ∷ []) = false
has_needless_zero (digit ∷ next ∷ more) = digit == 48
