-- Laws about fields and items, over the definitions only. A law on an input holds for every input and any
-- byte as the separator.
use Rattle.std.specs.Prelude.{◌≡◌, ◌⊎◌, ℕ, ◌+◌, ◌<◌, ◌≤◌, ◌==◌, true, List, [], ◌∷◌, ◌++◌, length, take, drop, map, All, ℤ, Result, Ok, Err, IfOk, OnErr}
use Rattle.std.specs.Bool.{⊤}
use Rattle.std.specs.List.{AllZip, slice_split, before_first, after_first, position_or_len, sum_by}
use Rattle.std.specs.Str.Lines.{lines}
use Rattle.atoi_core.specs.Refusal.{Refusal}
use Rattle.atoi_core.specs.IntType.{IntType}
use Rattle.atoi_core.specs.declared.error.AtoiSimdError.{AtoiSimdError}
use Rattle.atoi_core.specs.Answer.{typed_prefix_answer, parse_answer, parse_prefix_answer}
use Rattle.atoi_core.specs.Text.{IsText, TextWrites, PrefixWrites}
use Rattle.atoi_column.specs.Fields.{is_separator, fields_of}
use Rattle.atoi_column.specs.Items.{Flaw, flaw_at, index_of, place_of, items_of}
use Rattle.atoi_column.specs.FieldItems.{BadField, FieldsLeft, after_first_field, field_items_left, field_items, line_items}

-- `whole` accepts the first field of `rest` exactly if `prefix` finds a number that ends with it,
-- with the same value. No found number extends past the field.
pub record FieldIsPrefix (whole : List ℕ → Result ℤ Refusal) (prefix : List ℕ → Result (ℤ × ℕ) Refusal)
    (separator : ℕ) (rest : List ℕ) : Type 0 where
  pub to_prefix : (value : ℤ) → whole (before_first (λ byte. byte == separator) rest) ≡ Ok value
      → prefix rest ≡ Ok (value, position_or_len (λ byte. byte == separator) rest)
  pub to_field : (value : ℤ) → prefix rest ≡ Ok (value, position_or_len (λ byte. byte == separator) rest)
      → whole (before_first (λ byte. byte == separator) rest) ≡ Ok value
  pub within : (value : ℤ) (count : ℕ) → prefix rest ≡ Ok (value, count)
      → count ≤ position_or_len (λ byte. byte == separator) rest

-- `FieldIsPrefix` of the parses with both flags, for every separator and `rest`.
abbrev pub FieldsArePrefixes : IntType → Type 0
FieldsArePrefixes int =
    (separator : ℕ) → is_separator separator ≡ true → (rest : List ℕ)
    → FieldIsPrefix (parse_answer int true true) (parse_prefix_answer int true true) separator rest

-- `FieldIsPrefix` for the field at which `parse_prefix` with both flags returned `result`, by what its
-- contract says.
abbrev pub ResultsTellFields : {T : Type 0} → IntType → (T → ℤ) → Type 0
ResultsTellFields {T} int number =
    (separator : ℕ) → is_separator separator ≡ true → (rest : List ℕ) (result : Result (T × ℕ) AtoiSimdError)
    → typed_prefix_answer number result ≡ parse_prefix_answer int true true rest
    → IfOk result (λ found. PrefixWrites (TextWrites int true) rest (number found.0) found.1)
    → OnErr result ((any : ℤ) (count : ℕ) → ¬ PrefixWrites (TextWrites int true) rest any count)
    → FieldIsPrefix (parse_answer int true true) (parse_prefix_answer int true true) separator rest

-- The offset after the fields `texts`, with a separator after each.
abbrev pub place_after : List (List ℕ) → ℕ
place_after texts = sum_by (λ text. length text + 1) texts

-- After fields that are texts: `last` is empty if no other field is left, otherwise one item, the
-- error of the next field, which is no text. `prefix` answers `rest`, the input from there on.
abbrev pub EndsItems : IntType → (prefix : List ℕ → Result (ℤ × ℕ) Refusal) → (index place : ℕ) → (rest : List ℕ)
    → List (List ℕ) → List (Result ℤ Flaw) → Type 0
EndsItems int prefix index place rest [] last = last ≡ []
EndsItems int prefix index place rest (text ∷ texts) last =
    ¬ IsText int text × (last ≡ Err (flaw_at index place (prefix rest)) ∷ [])

-- The items of an input: the `numbers` of its first fields `texts`, then `last` for the `others`.
pub record HasItems (int : IntType) (separator : ℕ) (input : List ℕ) : Type 0 where
  pub texts : List (List ℕ)
  pub others : List (List ℕ)
  pub numbers : List ℤ
  pub last : List (Result ℤ Flaw)
  pub fields : fields_of separator input ≡ texts ++ others
  pub written : AllZip (TextWrites int true) texts numbers
  pub items : items_of int separator input ≡ map Ok numbers ++ last
  pub end : EndsItems int (parse_prefix_answer int true true)
      (length texts) (place_after texts) (drop (place_after texts) input) others last

abbrev pub TextsAndItems : IntType → Type 0
TextsAndItems int = (separator : ℕ) (input : List ℕ) → HasItems int separator input

-- The length of the number that was read, or 0.
abbrev pub number_len : Result (ℤ × ℕ) Refusal → ℕ
number_len (Ok found) = found.1
number_len (Err reason) = 0

-- The first field that is no text of the type has this index; `place` is the offset after the
-- number at its start, or of its first byte.
pub record IsFirstBad (int : IntType) (separator : ℕ) (input : List ℕ) (index place : ℕ) : Type 0 where
  pub before : List (List ℕ)
  pub field : List ℕ
  pub others : List (List ℕ)
  pub parts : fields_of separator input ≡ before ++ field ∷ others
  pub good : All (IsText int) before
  pub bad : ¬ IsText int field
  pub index_is : index ≡ length before
  pub index_within : index < length input
  pub place_is : place
      ≡ place_after before + number_len (parse_prefix_answer int true true (drop (place_after before) input))

-- If all items are values, all fields are texts that write them. An error is about the first field
-- that is no text.
pub record ItemsDecide (int : IntType) : Type 0 where
  pub whole : (separator : ℕ) (input : List ℕ) (numbers : List ℤ) → items_of int separator input ≡ map Ok numbers
      → AllZip (TextWrites int true) (fields_of separator input) numbers
  pub first_bad : (separator : ℕ) (input : List ℕ) (numbers : List ℤ) (flaw : Flaw)
      → items_of int separator input ≡ map Ok numbers ++ Err flaw ∷ []
      → IsFirstBad int separator input (index_of flaw) (place_of flaw)

-- The first field of an input that is not empty ends before the first separator; the others follow
-- it.
abbrev pub FirstField : Type 0
FirstField =
    (separator : ℕ) (input : List ℕ) → 0 < length input
    → fields_of separator input
    ≡ before_first (λ byte. byte == separator) input ∷ fields_of separator (after_first (λ byte. byte == separator) input)

-- A loop's invariant: `numbers` were read, and the items `left` are still to come.
pub record HaveRead (items : List (Result ℤ Flaw)) (numbers : List ℤ) (left : List (Result ℤ Flaw)) : Type 0 where
  pub parts : items ≡ map Ok numbers ++ left
  pub count : length items ≡ length numbers + length left

-- How `HaveRead` is kept: at the start, after one value (`more`) or several (`more_values`). When
-- no item is left, all are numbers; nothing follows an error.
pub record ItemsInTurn : Type 0 where
  pub start : (items : List (Result ℤ Flaw)) → HaveRead items [] items
  pub more : (items left after : List (Result ℤ Flaw)) (numbers : List ℤ) (number : ℤ) → HaveRead items numbers left
      → left ≡ Ok number ∷ after → HaveRead items (numbers ++ number ∷ []) after
  pub more_values : (items left after : List (Result ℤ Flaw)) (numbers values : List ℤ) → HaveRead items numbers left
      → left ≡ map Ok values ++ after → HaveRead items (numbers ++ values) after
  pub all : (items left : List (Result ℤ Flaw)) (numbers : List ℤ) → HaveRead items numbers left
      → left ≡ [] → items ≡ map Ok numbers
  pub after_error : (int : IntType) (separator : ℕ) (input : List ℕ) (numbers : List ℤ) (flaw : Flaw) (after : List (Result ℤ Flaw))
      → items_of int separator input ≡ map Ok numbers ++ Err flaw ∷ after → after ≡ []
  pub at_error : (int : IntType) (separator : ℕ) (input : List ℕ) (numbers : List ℤ) (left after : List (Result ℤ Flaw)) (flaw : Flaw)
      → HaveRead (items_of int separator input) numbers left → left ≡ Err flaw ∷ after
      → items_of int separator input ≡ map Ok numbers ++ Err flaw ∷ []

-- A text writes the number that is its item, or writes no number, and its item is an error about it.
abbrev pub DecidesText : IntType → List ℕ → Result ℤ BadField → Type 0
DecidesText int text (Ok number) = TextWrites int true text number
DecidesText int text (Err bad) = (bad.text ≡ text) × ¬ IsText int text

-- The items of `Fields` decide the fields of an input, or its lines, one by one.
pub record FieldsDecide (int : IntType) : Type 0 where
  pub fields : (separator : ℕ) (input : List ℕ) → AllZip (DecidesText int) (fields_of separator input) (field_items int separator input)
  pub lines : (input : List ℕ) → AllZip (DecidesText int) (lines input) (line_items int input)

-- The error `bad` comes after the items `before`: its index is their number. At its offset, which
-- comes after as many pieces, the input begins with its text.
pub record IsPlaced (separator : ℕ) (input : List ℕ) (before : List (Result ℤ BadField)) (bad : BadField) : Type 0 where
  pub index_is : bad.index ≡ length before
  pub place_is : bad.place ≡ place_after (take bad.index (slice_split (λ byte. byte == separator) input))
  pub following : List ℕ
  pub text_is : drop bad.place input ≡ bad.text ++ following

-- Each error of `Fields` is placed, in fields and in lines.
pub record ErrorsArePlaced (int : IntType) : Type 0 where
  pub fields : (separator : ℕ) (input : List ℕ) (before after : List (Result ℤ BadField)) (bad : BadField)
      → field_items int separator input ≡ before ++ Err bad ∷ after → IsPlaced separator input before bad
  pub lines : (input : List ℕ) (before after : List (Result ℤ BadField)) (bad : BadField)
      → line_items int input ≡ before ++ Err bad ∷ after → IsPlaced 10 input before bad

-- The items of a column are the items of `Fields` up to the first error, which is about the same
-- field and ends the column.
abbrev pub StopsAtError : (column : List (Result ℤ Flaw)) (fields : List (Result ℤ BadField)) → Type 0
StopsAtError [] [] = ⊤
StopsAtError (Ok number ∷ column) (Ok other ∷ fields) = (number ≡ other) × StopsAtError column fields
StopsAtError (Err flaw ∷ column) (Err bad ∷ fields) =
    (index_of flaw ≡ bad.index) × (bad.place ≤ place_of flaw) × (column ≡ [])
StopsAtError column fields = ⊥

abbrev pub ColumnStopsAtError : IntType → Type 0
ColumnStopsAtError int = (separator : ℕ) (input : List ℕ) → StopsAtError (items_of int separator input) (field_items int separator input)

-- A piece of an input that ends where a field does: it is empty, or a separator is its last byte.
abbrev pub IsPiece : (separator : ℕ) → List ℕ → Type 0
IsPiece separator piece = (piece ≡ []) ⊎ ((front : List ℕ) × (piece ≡ front ++ separator ∷ []))

-- Where an iterator is after all items that are left.
abbrev pub end_of : IntType → FieldsLeft → FieldsLeft
end_of int left =
    record left { index = left.index + length (field_items_left int left); place = left.place + length left.rest; rest = [] }

-- The items of a piece and more are the items of the piece, and then the items of what follows,
-- started at the end of the piece (`cut`). No step moves that end, and the last reaches it.
pub record PiecesInTurn (int : IntType) : Type 0 where
  pub cut : (left : FieldsLeft) (more : List ℕ) → IsPiece left.separator left.rest
      → field_items_left int (record left { rest = left.rest ++ more })
      ≡ field_items_left int left ++ field_items_left int (record (end_of int left) { rest = more })
  pub step : (old new : FieldsLeft) (item : Result ℤ BadField) → field_items_left int old ≡ item ∷ field_items_left int new
      → new ≡ after_first_field old → end_of int new ≡ end_of int old
  pub end : (left : FieldsLeft) → left.rest ≡ [] → end_of int left ≡ left
