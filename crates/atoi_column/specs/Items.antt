-- The items of a column: values, up to the first refused field.
use Rattle.std.specs.Prelude.{◌≡◌, ℕ, ◌+◌, ◌==◌, true, ℤ, Option, None, Some, Result, Ok, Err, List, [], ◌∷◌, length, drop}
use Rattle.std.specs.List.{after_first}
use Rattle.std.specs.Iterator.{YieldsFirstBy}
use Rattle.atoi_core.specs.Refusal.{Refusal, refusal_of}
use Rattle.atoi_core.specs.IntType.{IntType}
use Rattle.atoi_core.specs.Answer.{parse_answer, parse_prefix_answer}
use Rattle.atoi_column.specs.declared.error.ColumnError.{ColumnError}
use Rattle.atoi_column.specs.declared.error.ColumnError.TheVariants.{Field, Trailing}
use Rattle.atoi_column.specs.Fields.{fields_of}

-- Why a field is refused: its index, an offset, and for `field` the reason. At the offset, the field
-- begins, or for `trailing` the byte after its number is.
pub data Flaw : Type 0 where
  field : ℕ → ℕ → Refusal → Flaw
  trailing : ℕ → ℕ → Flaw

abbrev pub index_of : Flaw → ℕ
index_of (field index place reason) = index
index_of (trailing index place) = index

abbrev pub place_of : Flaw → ℕ
place_of (field index place reason) = place
place_of (trailing index place) = place

-- A `ColumnError`, with its slice as a list of bytes.
abbrev pub flaw_of : ColumnError → Flaw
flaw_of (Field index place cause) = field index place (refusal_of cause)
flaw_of (Trailing index place) = trailing index place

-- An item as contracts see it; `number` gives a value's integer.
abbrev pub item_of : {T : Type 0} → (T → ℤ) → Result T ColumnError → Result ℤ Flaw
item_of number (Ok value) = Ok (number value)
item_of number (Err error) = Err (flaw_of error)

-- The error of a refused field, from the answer of `parse_prefix`.
abbrev pub flaw_at : (index place : ℕ) → Result (ℤ × ℕ) Refusal → Flaw
flaw_at index place (Ok found) = trailing index (place + found.1)
flaw_at index place (Err reason) = field index place reason

-- The items of fields, the first with index `index` at offset `place`. `rest` is the input from
-- there; `whole` answers a field, `prefix` the input.
abbrev pub items_from : (whole : List ℕ → Result ℤ Refusal) (prefix : List ℕ → Result (ℤ × ℕ) Refusal)
    → (index place : ℕ) → (rest : List ℕ) → List (List ℕ) → List (Result ℤ Flaw)
items_from whole prefix index place rest [] = []
items_from whole prefix index place rest (text ∷ texts) =
    elim (whole text) [
      | Ok value ↦ Ok value ∷ items_from whole prefix (index + 1) (place + length text + 1) (drop (length text + 1) rest) texts
      | Err reason ↦ Err (flaw_at index place (prefix rest)) ∷ []
    ]

-- The items still to be read: `rest`, from offset `place` on.
unfoldable pub items_left : IntType → (separator index place : ℕ) → List ℕ → List (Result ℤ Flaw)
items_left int separator index place rest =
    items_from (parse_answer int true true) (parse_prefix_answer int true true) index place rest (fields_of separator rest)

-- The items of an input.
abbrev pub items_of : IntType → (separator : ℕ) → List ℕ → List (Result ℤ Flaw)
items_of int separator input = items_left int separator 0 0 input

-- What a `Column` is still to read. The field `index` begins at offset `place`, where `rest` begins. Once it has
-- ended, `rest` is empty.
pub record ColumnLeft : Type 0 where
  pub separator : ℕ
  pub index : ℕ
  pub place : ℕ
  pub rest : List ℕ

-- The column of an input, before the first field is read.
abbrev pub column_in : (separator : ℕ) → List ℕ → ColumnLeft
column_in separator input = record { separator = separator; index = 0; place = 0; rest = input }

-- The items of a column that are still to be read.
abbrev pub column_items : IntType → ColumnLeft → List (Result ℤ Flaw)
column_items int left = items_left int left.separator left.index left.place left.rest

-- A call that returns a number leaves what follows the next separator. After an error, nothing is left. At the
-- end, nothing changes.
abbrev pub LeavesRest : {A E : Type 0} → ColumnLeft → Option (Result A E) → ColumnLeft → Type 0
LeavesRest old None new = (old.rest ≡ []) × (new ≡ old)
LeavesRest old (Some (Ok value)) new = new.rest ≡ after_first (λ byte. byte == old.separator) old.rest
LeavesRest old (Some (Err error)) new = new.rest ≡ []

-- A call of `next` returns the first item, if there is one, and leaves the others.
abbrev pub GivesFirstItem : {T : Type 0} → IntType → (T → ℤ) → ColumnLeft → Option (Result T ColumnError) → ColumnLeft → Type 0
GivesFirstItem int number old result new =
    YieldsFirstBy (item_of number) (column_items int) old result new × LeavesRest old result new
