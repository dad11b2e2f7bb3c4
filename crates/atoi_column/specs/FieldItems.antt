-- The items of `Fields`: for each field, in order, its value or an error.
use Rattle.std.specs.Prelude.{◌≡◌, ℕ, ◌+◌, ◌-◌, ◌==◌, Bool, true, false, if◌then◌else◌, ℤ, Option, None, Some, Result, Ok, Err, List, [], ◌∷◌, length}
use Rattle.std.specs.List.{slice_split, after_first}
use Rattle.std.specs.Iterator.{YieldsFirstBy}
use Rattle.std.specs.Str.Lines.{strip_carriage_return}
use Rattle.atoi_core.specs.Refusal.{Refusal, refusal_of}
use Rattle.atoi_core.specs.IntType.{IntType}
use Rattle.atoi_core.specs.Answer.{parse_answer}
use Rattle.atoi_column.specs.declared.field_error.FieldError.{FieldError}

-- A field that is not a number: its index, the offset of its first byte, its bytes, and why `parse`
-- refuses them.
pub record BadField : Type 0 where
  pub index : ℕ
  pub place : ℕ
  pub text : List ℕ
  pub reason : Refusal

-- A `FieldError`, with its slices as lists of bytes.
abbrev pub bad_field_of : FieldError → BadField
bad_field_of error =
    record { index = error.index; place = error.place; text = error.text.now; reason = refusal_of error.cause }

-- An item as contracts see it; `number` gives a value's integer.
abbrev pub field_item_of : {T : Type 0} → (T → ℤ) → Result T FieldError → Result ℤ BadField
field_item_of number (Ok value) = Ok (number value)
field_item_of number (Err error) = Err (bad_field_of error)

-- The item of a field, from the answer of `parse` for its text.
abbrev pub field_item : (index place : ℕ) (text : List ℕ) → Result ℤ Refusal → Result ℤ BadField
field_item index place text (Ok number) = Ok number
field_item index place text (Err reason) = Err (record { index = index; place = place; text = text; reason = reason })

-- The items of the parts between separators, the first with index `index` at offset `place`. `cut`
-- gives the text of a part that a separator ends; an empty last part is no field.
abbrev pub items_of_parts : (cut : List ℕ → List ℕ) (answer : List ℕ → Result ℤ Refusal) → (index place : ℕ)
    → List (List ℕ) → List (Result ℤ BadField)
items_of_parts cut answer index place [] = []
items_of_parts cut answer index place (part ∷ []) =
    if length part == 0 then [] else field_item index place part (answer part) ∷ []
items_of_parts cut answer index place (part ∷ next ∷ parts) =
    field_item index place (cut part) (answer (cut part))
    ∷ items_of_parts cut answer (index + 1) (place + length part + 1) (next ∷ parts)

-- A field is its part. Of a line a carriage return at its end is left out.
abbrev pub cut_of : (is_lines : Bool) → List ℕ → List ℕ
cut_of false part = part
cut_of true part = strip_carriage_return part

-- What `Fields` is still to read. The field `index` begins at offset `place`, where `rest` begins.
pub record FieldsLeft : Type 0 where
  pub is_lines : Bool
  pub separator : ℕ
  pub index : ℕ
  pub place : ℕ
  pub rest : List ℕ

-- The items still to be read.
unfoldable pub field_items_left : IntType → FieldsLeft → List (Result ℤ BadField)
field_items_left int left =
    items_of_parts (cut_of left.is_lines) (parse_answer int true true) left.index left.place
    (slice_split (λ byte. byte == left.separator) left.rest)

abbrev pub after_first_field : FieldsLeft → FieldsLeft
after_first_field left =
    let rest = after_first (λ byte. byte == left.separator) left.rest in
    record left { index = left.index + 1; place = left.place + (length left.rest - length rest); rest = rest }

-- A call that returns an item goes on to the next field. At the end, nothing changes.
abbrev pub MovesOn : {A : Type 0} → FieldsLeft → Option A → FieldsLeft → Type 0
MovesOn old None new = (old.rest ≡ []) × (new ≡ old)
MovesOn old (Some item) new = new ≡ after_first_field old

-- A call of `next` returns the first item, if there is one, and leaves the others.
abbrev pub GivesFirstField : {T : Type 0} → IntType → (T → ℤ) → FieldsLeft → Option (Result T FieldError) → FieldsLeft → Type 0
GivesFirstField int number old result new =
    YieldsFirstBy (field_item_of number) (field_items_left int) old result new × MovesOn old result new

-- The fields of an input, before the first is read.
abbrev pub fields_in : (separator : ℕ) → List ℕ → FieldsLeft
fields_in separator input = record { is_lines = false; separator = separator; index = 0; place = 0; rest = input }

-- Its lines.
abbrev pub lines_in : List ℕ → FieldsLeft
lines_in input = record { is_lines = true; separator = 10; index = 0; place = 0; rest = input }

-- The items of the fields of an input.
abbrev pub field_items : IntType → (separator : ℕ) → List ℕ → List (Result ℤ BadField)
field_items int separator input = field_items_left int (fields_in separator input)

-- The items of its lines.
abbrev pub line_items : IntType → List ℕ → List (Result ℤ BadField)
line_items int input = field_items_left int (lines_in input)
