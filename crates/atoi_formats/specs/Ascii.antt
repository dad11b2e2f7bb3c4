-- Why a text is no number of a type, or begins with no number, and at which byte that is decided.
use Rattle.std.specs.Prelude.{◌≡◌, ◌↔◌, ◌+◌, ◌<◌, ℕ, Bool, true, false, List, [], ◌∷◌, ◌++◌, ◌==◌, if◌then◌else◌, length, codes, decimal, ℤ, Result, IsErrOf}
use Rattle.std.specs.declared.num.IntErrorKind.{IntErrorKind}
use Rattle.std.specs.declared.num.IntErrorKind.TheVariants.{Empty as empty_kind, InvalidDigit, PosOverflow, NegOverflow}
use Rattle.atoi_core.specs.Digit.{decimal_table}
use Rattle.atoi_core.specs.IntType.{IntType}
use Rattle.atoi_core.specs.Run.{run_len}
use Rattle.atoi_core.specs.Sign.{sign_of, minus_sign}
use Rattle.atoi_core.specs.Text.{BeginsWithDigit, TextWrites, PrefixWrites, IsTooLarge}
use Rattle.atoi_formats.specs.declared.int_error.Fault.{Fault}
use Rattle.atoi_formats.specs.declared.int_error.Fault.TheVariants.{Empty, NoDigit, UnexpectedByte, TooLarge, TooSmall}
use Rattle.atoi_formats.specs.declared.int_error.IntError.{IntError}

-- No digit follows the sign of the text. A sign that the type accepts ends at `offset`; without one, that is 0.
pub record HasNoDigit (int : IntType) (text : List ℕ) (offset : ℕ) : Type 0 where
  pub after_sign : offset ≡ (sign_of int.signed true text).taken
  pub none : ¬ BeginsWithDigit (sign_of int.signed true text).body

-- The bytes before `offset` write a number of the type, and the byte there is no digit.
pub record HasByteAfter (int : IntType) (text : List ℕ) (offset : ℕ) : Type 0 where
  pub number : ℤ
  pub before : PrefixWrites (TextWrites int true) text number offset
  pub more : offset < length text

-- The digits after the sign, or at the start, are out of range. The sign is a minus if `is_negative`.
pub record IsOutOfRange (int : IntType) (is_negative : Bool) (text : List ℕ) : Type 0 where
  pub sign_is : (sign_of int.signed true text).minus ≡ is_negative
  pub count : ℕ
  pub above : IsTooLarge int is_negative (sign_of int.signed true text).body count

-- What a fault at `offset` says of a text that is no number of the type.
abbrev pub IsWholeFault : IntType → List ℕ → Fault → (offset : ℕ) → Type 0
IsWholeFault int text Empty offset = (text ≡ []) × (offset ≡ 0)
IsWholeFault int text NoDigit offset = HasNoDigit int text offset × (0 < length text)
IsWholeFault int text UnexpectedByte offset = HasByteAfter int text offset
IsWholeFault int text TooLarge offset = IsOutOfRange int false text × (offset ≡ 0)
IsWholeFault int text TooSmall offset = IsOutOfRange int true text × (offset ≡ 0)

-- The same of a text that begins with no number of the type.
abbrev pub IsPrefixFault : IntType → List ℕ → Fault → (offset : ℕ) → Type 0
IsPrefixFault int text Empty offset = HasNoDigit int text offset × (offset ≡ length text)
IsPrefixFault int text NoDigit offset = HasNoDigit int text offset × (offset < length text)
IsPrefixFault int text UnexpectedByte offset = ⊥
IsPrefixFault int text TooLarge offset = IsOutOfRange int false text × (offset ≡ 0)
IsPrefixFault int text TooSmall offset = IsOutOfRange int true text × (offset ≡ 0)

abbrev pub int_error : Fault → (offset : ℕ) → IntError
int_error fault offset = record { fault = fault; offset = offset }

-- The result is the error of that fault at an offset exactly if `P` holds of the offset.
abbrev pub FailsIff : {A : Type 0} → Result A IntError → Fault → (P : ℕ → Type 0) → Type 0
FailsIff result fault P = (offset : ℕ) → IsErrOf result (int_error fault offset) ↔ P offset

-- The kind of a fault, in the words of std.
abbrev pub kind_of_fault : Fault → IntErrorKind
kind_of_fault Empty = empty_kind
kind_of_fault NoDigit = InvalidDigit
kind_of_fault UnexpectedByte = InvalidDigit
kind_of_fault TooLarge = PosOverflow
kind_of_fault TooSmall = NegOverflow

-- What an error prints.
abbrev pub fault_text : Fault → (offset : ℕ) → List ℕ
fault_text Empty offset = codes "no digit at byte " ++ decimal offset
fault_text NoDigit offset = codes "no digit at byte " ++ decimal offset
fault_text UnexpectedByte offset = codes "unexpected byte at byte " ++ decimal offset
fault_text TooLarge offset = codes "number out of range"
fault_text TooSmall offset = codes "number out of range"

abbrev pub int_error_text : IntError → List ℕ
int_error_text error = fault_text error.fault error.offset

-- ---- Where the functions find a fault

-- The fault of a number that is out of range.
abbrev pub range_fault : (text : List ℕ) → Fault
range_fault [] = TooLarge
range_fault (byte ∷ bytes) = if byte == minus_sign then TooSmall else TooLarge

-- The error at the first byte that is neither the sign nor a digit, or at the end.
abbrev pub wrong_byte : (signed : Bool) → List ℕ → IntError
wrong_byte signed text =
    let sign = sign_of signed true text in
    let digits = run_len decimal_table sign.body in
    int_error (if length text == 0 then Empty else (if digits == 0 then NoDigit else UnexpectedByte)) (sign.taken + digits)

-- The error of a whole text, whose digits are out of range if `is_over`.
abbrev pub error_of_whole : (signed is_over : Bool) → List ℕ → IntError
error_of_whole signed is_over text = if is_over then int_error (range_fault text) 0 else wrong_byte signed text

-- The error of a text that begins with no number.
abbrev pub error_of_prefix : (signed : Bool) → List ℕ → IntError
error_of_prefix signed text =
    let sign = sign_of signed true text in
    if run_len decimal_table sign.body == 0 then int_error (if length sign.body == 0 then Empty else NoDigit) sign.taken
    else int_error (range_fault text) 0
