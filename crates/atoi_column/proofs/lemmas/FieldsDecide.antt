-- The items of fields decide them, and up to the first error they are a column's.
use Rattle.std.proofs.Common.{◌≡◌, ℕ, ◌+◌, ◌≤◌, ◌==◌, true, false, if◌then◌else◌, List, [], ◌∷◌, length, drop, ℤ, Result, Ok, Err, refl, arith}
use Rattle.std.specs.List.{AllZip, slice_split}
use Rattle.std.specs.Str.Lines.{lines_of_parts}
use Rattle.atoi_core.specs.Refusal.{Refusal}
use Rattle.atoi_core.specs.IntType.{IntType}
use Rattle.atoi_core.specs.Answer.{parse_answer, parse_prefix_answer}
use Rattle.atoi_core.specs.Laws.{looked_for, AcceptedTexts, AcceptedNumbers}
use Rattle.atoi_column.specs.Fields.{without_empty_last}
use Rattle.atoi_column.specs.Items.{Flaw, flaw_at, index_of, place_of, items_from, items_left}
use Rattle.atoi_column.specs.FieldItems.{BadField, cut_of, field_item, items_of_parts, field_items_left}
use Rattle.atoi_column.specs.Laws.{DecidesText, FieldsDecide, StopsAtError, ColumnStopsAtError}
use Rattle.atoi_column.proofs.lemmas.Decides.{index_of-flaw_at, place_of-flaw_at}

module _ (int : IntType) (texts : AcceptedTexts int) (numbers : AcceptedNumbers int) where
  abbrev answer : List ℕ → Result ℤ Refusal
  answer text = parse_answer int true true text

  decides_as : (index place : ℕ) (text : List ℕ) (r : Result ℤ Refusal)
      → answer text ≡ r → DecidesText int text (field_item index place text r)
  decides_as index place text (Ok number) h = numbers.written (looked_for true) true text number h
  decides_as index place text (Err reason) h = (refl, λ is. absurd (cc (texts.number text is.number is.written, h)))

  decides : (index place : ℕ) (text : List ℕ) → DecidesText int text (field_item index place text (answer text))
  decides index place text = decides_as index place text (answer text) refl

  fields : (index place : ℕ) (parts : List (List ℕ))
      → AllZip (DecidesText int) (without_empty_last parts) (items_of_parts (cut_of false) answer index place parts)
  fields index place [] = tt
  fields index place (part ∷ []) = grind (arith, decides index place part)
  fields index place (part ∷ next ∷ parts) = (decides index place part, fields (index + 1) (place + length part + 1) (next ∷ parts))

  of_lines : (index place : ℕ) (parts : List (List ℕ))
      → AllZip (DecidesText int) (lines_of_parts parts) (items_of_parts (cut_of true) answer index place parts)
  of_lines index place [] = tt
  of_lines index place (part ∷ []) = grind (arith, decides index place part)
  of_lines index place (part ∷ next ∷ parts) =
      (decides index place (cut_of true part), of_lines (index + 1) (place + length part + 1) (next ∷ parts))

pub fields_decide : (int : IntType) → AcceptedTexts int → AcceptedNumbers int → FieldsDecide int
unfolding field_items_left
fields_decide int texts numbers = record {
  fields = λ separator input. fields int texts numbers 0 0 (slice_split (λ byte. byte == separator) input);
  lines = λ input. of_lines int texts numbers 0 0 (slice_split (λ byte. byte == 10) input);
}

module _ (whole : List ℕ → Result ℤ Refusal) (prefix : List ℕ → Result (ℤ × ℕ) Refusal) where
  stops_after : (index place : ℕ) (rest text : List ℕ) (texts : List (List ℕ)) (items : List (Result ℤ BadField))
      → StopsAtError (items_from whole prefix (index + 1) (place + length text + 1) (drop (length text + 1) rest) texts) items
      → StopsAtError (items_from whole prefix index place rest (text ∷ texts)) (field_item index place text (whole text) ∷ items)
  stops_after index place rest text texts items following =
      grind (arith, following, index_of-flaw_at index place (prefix rest), place_of-flaw_at index place (prefix rest))

  stops : (index place : ℕ) (rest : List ℕ) (parts : List (List ℕ))
      → StopsAtError (items_from whole prefix index place rest (without_empty_last parts))
      (items_of_parts (cut_of false) whole index place parts)
  stops index place rest [] = tt
  stops index place rest (part ∷ []) = grind (arith, stops_after index place rest part [] [] tt)
  stops index place rest (part ∷ next ∷ parts) =
      stops_after index place rest part (without_empty_last (next ∷ parts)) _
      (stops (index + 1) (place + length part + 1) (drop (length part + 1) rest) (next ∷ parts))

pub column_stops_at_error : (int : IntType) → ColumnStopsAtError int
unfolding items_left field_items_left
column_stops_at_error int separator input =
    stops (parse_answer int true true) (parse_prefix_answer int true true) 0 0 input (slice_split (λ byte. byte == separator) input)
