-- The first field of the bytes that are left, as `next` finds it.
use Rattle.std.specs.Prelude.{◌≡◌, ℕ, ◌==◌, ◌&&◌, Bool, true, if◌then◌else◌, ℤ, Option, None, Some, Ok, List, [], ◌∷◌, length, take, drop}
use Rattle.std.specs.List.{position_or_len, before_first, after_first}
use Rattle.atoi_core.specs.IntType.{IntType}
use Rattle.atoi_core.specs.Answer.{parse_answer, parse_prefix_answer}
use Rattle.atoi_core.specs.Text.{TextWrites}
use Rattle.atoi_column.specs.FieldItems.{cut_of}

-- The text of the first field of `rest`, which the end of the input may end.
abbrev pub first_text : (cut : List ℕ → List ℕ) (separator : ℕ) → List ℕ → List ℕ
first_text cut separator rest =
    if position_or_len (λ byte. byte == separator) rest == length rest then rest
    else cut (before_first (λ byte. byte == separator) rest)

-- What follows a separator, if the bytes begin with one.
abbrev pub after_separator : (separator : ℕ) → List ℕ → Option (List ℕ)
after_separator separator [] = None
after_separator separator (byte ∷ bytes) = if byte == separator then Some bytes else None

-- What follows a field that ends before these bytes, if one does: they are empty, or begin with
-- a separator, of a line perhaps after a carriage return.
abbrev pub after_field : (is_lines : Bool) (separator : ℕ) → List ℕ → Option (List ℕ)
after_field is_lines separator [] = Some []
after_field is_lines separator (byte ∷ bytes) =
    if byte == separator then Some bytes else (if is_lines && byte == 13 then after_separator separator bytes else None)

-- `parse` returns `number` for the first field of `rest`, and `following` comes after the field.
pub record IsAcceptedField (int : IntType) (is_lines : Bool) (separator : ℕ) (rest : List ℕ)
    (number : ℤ) (following : List ℕ) : Type 0 where
  pub accepted : parse_answer int true true (first_text (cut_of is_lines) separator rest) ≡ Ok number
  pub after : following ≡ after_first (λ byte. byte == separator) rest

-- The first byte of `rest` writes `number`, and is its prefix that does. Then comes the separator.
pub record IsOneDigitField (int : IntType) (separator : ℕ) (rest : List ℕ) (number : ℤ) (following : List ℕ) : Type 0 where
  pub prefix : parse_prefix_answer int true true rest ≡ Ok (number, 1)
  pub written : TextWrites int true (take 1 rest) number
  pub ends : drop 1 rest ≡ separator ∷ following
