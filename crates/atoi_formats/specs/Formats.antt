-- The bytes that write a number, in the formats of this crate.
use Rattle.std.specs.Prelude.{◌≡◌, ◌<◌, ◌≤◌, ℕ, Bool, true, false, IsFalse, ◌==◌, ◌&&◌, ◌||◌, if◌then◌else◌, List, [], ◌∷◌, ◌++◌, length, ℤ, pos, ◌≤ℤ◌}
use Rattle.std.specs.Fmt.{signed_decimal}
use Rattle.std.specs.Str.Parse.{IsNumeral, digits_value}
use Rattle.atoi_core.specs.Digit.{decimal_table, is_digit}
use Rattle.atoi_core.specs.IntType.{IntType}
use Rattle.atoi_core.specs.Laws.{zero_byte, least_of}
use Rattle.atoi_core.specs.Sign.{minus_sign, with_sign}
use Rattle.atoi_core.specs.Text.{BeginsWithDigit, DigitsWrite, TextWrites, has_needless_zero}

-- An optional sign and digits that write a number of the type.
unfoldable pub IsNumber : IntType → (bytes : List ℕ) → ℤ → Type 0
IsNumber int bytes number = TextWrites int true bytes number

-- What `{}` prints for a number of the type.
pub record IsPrinted (int : IntType) (bytes : List ℕ) (number : ℤ) : Type 0 where
  pub printed : bytes ≡ signed_decimal number
  pub least : least_of int ≤ℤ number
  pub greatest : number ≤ℤ pos int.greatest

-- The same, as a word that proofs of callers do not open.
unfoldable pub IsCanonical : IntType → (bytes : List ℕ) → ℤ → Type 0
IsCanonical int bytes number = IsPrinted int bytes number

-- Such a number, then `rest`, which does not begin with a digit.
pub record HasCanonical (int : IntType) (text : List ℕ) (number : ℤ) (rest : List ℕ) : Type 0 where
  pub bytes : List ℕ
  pub parts : text ≡ bytes ++ rest
  pub written : IsCanonical int bytes number
  pub ends : ¬ BeginsWithDigit rest

-- `width` digits that write the number, then `rest`.
pub record HasWidth (int : IntType) (text : List ℕ) (width : ℕ) (number : ℤ) (rest : List ℕ) : Type 0 where
  pub digits : List ℕ
  pub parts : text ≡ digits ++ rest
  pub width_is : length digits ≡ width
  pub written : DigitsWrite int false digits number

-- As many digits as there are before `rest`, or `most` if there are more; at least `least`.
pub record AreLeading (digits rest : List ℕ) (least most : ℕ) : Type 0 where
  pub enough : least ≤ length digits
  pub at_most : length digits ≤ most
  pub ends : length digits < most → ¬ BeginsWithDigit rest

-- Such digits at the start, which write the number, then `rest`.
pub record HasDigitsBetween (int : IntType) (text : List ℕ) (least most : ℕ) (number : ℤ) (rest : List ℕ) : Type 0 where
  pub digits : List ℕ
  pub parts : text ≡ digits ++ rest
  pub leading : AreLeading digits rest least most
  pub written : DigitsWrite int false digits number

-- A zero and more bytes, or a minus and a zero: the first byte could be left out.
abbrev pub has_needless_byte : List ℕ → Bool
has_needless_byte [] = false
has_needless_byte (first ∷ []) = false
has_needless_byte (first ∷ second ∷ more) = first == zero_byte || (first == minus_sign && second == zero_byte)

-- A minus, or nothing.
abbrev pub minus_if : (is_negative : Bool) → List ℕ
minus_if is_negative = if is_negative then minus_sign ∷ [] else []

-- A number of JSON without a fraction and an exponent: an optional minus, and digits without a needless zero. It
-- is in range: for an unsigned type, `-0` is.
pub record WritesInJson (int : IntType) (bytes : List ℕ) (number : ℤ) : Type 0 where
  pub is_negative : Bool
  pub digits : List ℕ
  pub parts : bytes ≡ minus_if is_negative ++ digits
  pub numeral : IsNumeral 10 digits
  pub shortest : IsFalse (has_needless_zero digits)
  pub value_is : number ≡ with_sign is_negative (digits_value 10 digits)
  pub least : least_of int ≤ℤ number
  pub greatest : number ≤ℤ pos int.greatest

-- The same, as a word that proofs of callers do not open.
unfoldable pub IsJsonInteger : IntType → (bytes : List ℕ) → ℤ → Type 0
IsJsonInteger int bytes number = WritesInJson int bytes number

-- Whether a number of JSON goes on with these bytes: they begin with a digit, or as a fraction or an exponent.
abbrev pub goes_on : List ℕ → Bool
goes_on [] = false
goes_on (byte ∷ rest) = is_digit decimal_table byte || (byte == 46 || (byte == 69 || byte == 101))

-- Such a number, then `rest`, which is no more of it.
pub record HasJsonInteger (int : IntType) (text : List ℕ) (number : ℤ) (rest : List ℕ) : Type 0 where
  pub bytes : List ℕ
  pub parts : text ≡ bytes ++ rest
  pub written : IsJsonInteger int bytes number
  pub ends : IsFalse (goes_on rest)
