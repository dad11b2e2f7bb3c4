-- The first item of `Fields`, with the text and end of the first field.
use Rattle.std.proofs.Common.{◌≡◌, ◌≢◌, ℕ, ◌+◌, ◌-◌, ◌<◌, ◌≤◌, ◌==◌, min, true, false, not, inl, inr, if◌then◌else◌, Bool, List, [], ◌∷◌, length, length-drop, ℤ, Result, refl, ap, ◌∙◌, arith, eq-eqb, ne_eqb}
use Rattle.std.specs.List.{slice_split, position_or_len, before_first, after_first}
use Rattle.std.proofs.lemmas.List.{drop_all}
use Rattle.std.proofs.lemmas.List.Folds.{length-prefix_len}
use Rattle.std.proofs.lemmas.List.Sums.{prefix_len-le-length, fails_before_first}
use Rattle.std.proofs.lemmas.List.Splits.{slice_split_first, slice_split_none, length-slice_split}
use Rattle.std.proofs.lemmas.Bool.Decides.{leb_tells}
use Rattle.atoi_core.specs.Refusal.{Refusal}
use Rattle.atoi_core.specs.IntType.{IntType}
use Rattle.atoi_core.specs.Answer.{parse_answer}
use Rattle.atoi_column.specs.Fields.{without_empty_last}
use Rattle.atoi_column.specs.FieldItems.{BadField, FieldsLeft, cut_of, field_item, items_of_parts, after_first_field, field_items_left}
use Rattle.atoi_column.specs.FirstField.{first_text}
use Rattle.atoi_column.proofs.lemmas.Fields.{length-fields_of}

module _ (cut : List ℕ → List ℕ) (answer : List ℕ → Result ℤ Refusal) where
  -- A part before others gives an item, even if it is empty.
  pub part_then : (index place : ℕ) (part : List ℕ) (parts : List (List ℕ)) → 0 < length parts
      → items_of_parts cut answer index place (part ∷ parts)
      ≡ field_item index place (cut part) (answer (cut part)) ∷ items_of_parts cut answer (index + 1) (place + length part + 1) parts
  part_then index place part [] some = absurd (omega arith)
  part_then index place part (next ∷ parts) some = refl

  length-items_of_parts : (index place : ℕ) (parts : List (List ℕ))
      → length (items_of_parts cut answer index place parts) ≡ length (without_empty_last parts)
  length-items_of_parts index place [] = refl
  length-items_of_parts index place (part ∷ []) = grind arith
  length-items_of_parts index place (part ∷ next ∷ parts) =
      omega (arith, length-items_of_parts (index + 1) (place + length part + 1) (next ∷ parts))

module _ (int : IntType) (left : FieldsLeft) where
  abbrev ends : ℕ → Bool
  ends byte = byte == left.separator

  abbrev answer : List ℕ → Result ℤ Refusal
  answer text = parse_answer int true true text

  -- The first item, from the text of the first field.
  abbrev pub first_item : Result ℤ BadField
  first_item =
      field_item left.index left.place (first_text (cut_of left.is_lines) left.separator left.rest)
      (answer (first_text (cut_of left.is_lines) left.separator left.rest))

  abbrev items_after : List (Result ℤ BadField)
  items_after =
      let next = after_first_field left in
      items_of_parts (cut_of left.is_lines) answer next.index next.place (slice_split ends next.rest)

  pub field_items_left-empty : left.rest ≡ [] → field_items_left int left ≡ []
  unfolding field_items_left
  field_items_left-empty none = rw none refl

  first_of_last : 0 < length left.rest → length left.rest ≤ position_or_len ends left.rest
      → field_items_left int left ≡ first_item ∷ items_after
  unfolding field_items_left
  first_of_last some absent =
      let rest = left.rest in
      let one : slice_split ends rest ≡ rest ∷ [] =
      slice_split_none ends rest (λ k d within. fails_before_first ends rest k d (omega arith)) in
      let all : position_or_len ends rest ≡ length rest = omega (arith, prefix_len-le-length (λ byte. not (ends byte)) rest) in
      let none : length rest ≢ 0 = omega arith in
      rw (one, ne_eqb _ _ none, eq-eqb _ _ all, drop_all (position_or_len ends rest + 1) rest (omega arith)) refl

  first_of_ended : position_or_len ends left.rest < length left.rest → field_items_left int left ≡ first_item ∷ items_after
  unfolding field_items_left
  first_of_ended found =
      let rest = left.rest in
      let parts = slice_split ends (after_first ends rest) in
      let apart : position_or_len ends rest ≢ length rest = omega arith in
      let place : left.place + length (before_first ends rest) + 1 ≡ left.place + (length rest - length (after_first ends rest)) =
      omega (arith, length-prefix_len (λ byte. not (ends byte)) rest, length-drop (position_or_len ends rest + 1) rest) in
      rw (slice_split_first ends rest 0 found, ne_eqb _ _ apart)
      (part_then (cut_of left.is_lines) answer left.index left.place (before_first ends rest)
      parts (omega (arith, length-slice_split ends (after_first ends rest)))
      ∙ ap (λ p. field_item left.index left.place (cut_of left.is_lines (before_first ends rest))
      (answer (cut_of left.is_lines (before_first ends rest)))
      ∷ items_of_parts (cut_of left.is_lines) answer (left.index + 1) p parts) place)

  -- The first item is the first field's, and the others are left.
  field_items_left-first : 0 < length left.rest → field_items_left int left ≡ first_item ∷ field_items_left int (after_first_field left)
  unfolding field_items_left
  field_items_left-first some =
      elim (leb_tells (length left.rest) (position_or_len ends left.rest)) [
        | inl absent ↦ first_of_last some absent.1
        | inr found ↦ first_of_ended found.1
      ]

  pub length-field_items_left : length (field_items_left int left) ≤ length left.rest
  unfolding field_items_left
  length-field_items_left =
      let items = length-items_of_parts (cut_of left.is_lines) answer left.index left.place (slice_split ends left.rest) in
      omega (arith, items, length-fields_of left.separator left.rest)

  -- Where a byte is left, an item is.
  pub some-field_items_left : min (length left.rest) 1 ≤ length (field_items_left int left)
  some-field_items_left =
      let items : 0 < length left.rest → 0 < length (field_items_left int left) =
      λ some. omega (arith, ap (λ items. length items) (field_items_left-first some)) in
      grind (arith, items)

-- What is left of an input that ends at the offset `end`.
abbrev pub left_before : (is_lines : Bool) (separator index end : ℕ) → List ℕ → FieldsLeft
left_before is_lines separator index end rest =
    record { is_lines = is_lines; separator = separator; index = index; place = end - length rest; rest = rest }

left_before-moves : (is_lines : Bool) (separator index end : ℕ) (rest : List ℕ) → length rest ≤ end
    → left_before is_lines separator (index + 1) end (after_first (λ byte. byte == separator) rest)
    ≡ after_first_field (left_before is_lines separator index end rest)
left_before-moves is_lines separator index end rest within =
    let following = after_first (λ byte. byte == separator) rest in
    let place : end - length following ≡ end - length rest + (length rest - length following) =
    omega (arith, length-drop (position_or_len (λ byte. byte == separator) rest + 1) rest) in
    rw place refl

-- A step with the item of the first field leaves the others.
pub first_field_step : (int : IntType) {is_lines : Bool} {separator index end : ℕ}
    {rest following : List ℕ} {old : FieldsLeft} {item : Result ℤ BadField}
    → left_before is_lines separator index end rest ≡ old → 0 < length rest → length rest ≤ end
    → item ≡ first_item int (left_before is_lines separator index end rest) → following ≡ after_first (λ byte. byte == separator) rest
    → (field_items_left int old ≡ item ∷ field_items_left int (left_before is_lines separator (index + 1) end following))
    × (left_before is_lines separator (index + 1) end following ≡ after_first_field old)
first_field_step int {is_lines} {separator} {index} {end} {rest} is some within first after =
    let moved = left_before-moves is_lines separator index end rest within in
    rw (← is, first, after, moved) (field_items_left-first int (left_before is_lines separator index end rest) some, refl)
