-- Places and indices of errors are inside the input.
use Rattle.std.proofs.Common.{◌≡◌, inl, inr, ℕ, ◌+◌, ◌<◌, ◌≤◌, ◌==◌, true, false, if◌then◌else◌, not, Bool, List, [], ◌∷◌, length, drop, ℤ, Result, Ok, Err, refl, ap, ◌∙◌, arith, length-drop, IfErr}
use Rattle.std.specs.List.{All, slice_split, onto_first, position_or_len, before_first, after_first}
use Rattle.std.proofs.lemmas.List.Elements.{All-nil, All-cons}
use Rattle.std.proofs.lemmas.List.Splits.{length-slice_split}
use Rattle.std.proofs.lemmas.List.Folds.{length-prefix_len}
use Rattle.std.proofs.lemmas.List.Sums.{sum_by-cons, prefix_len-le-length}
use Rattle.std.proofs.lemmas.Bool.Decides.{eqb_tells, leb_tells}
use Rattle.atoi_core.specs.Refusal.{Refusal}
use Rattle.atoi_core.specs.IntType.{IntType}
use Rattle.atoi_core.specs.Answer.{parse_answer, parse_prefix_answer}
use Rattle.atoi_column.specs.Fields.{is_separator, fields_of}
use Rattle.atoi_column.specs.Items.{Flaw, flaw_at, index_of, place_of, items_from, items_left}
use Rattle.atoi_column.specs.FieldItems.{BadField, FieldsLeft, cut_of, field_item, items_of_parts, field_items_left}
use Rattle.atoi_column.specs.Laws.{FieldsArePrefixes, place_after}
use Rattle.atoi_column.proofs.lemmas.Fields.{fields_of_first, length-fields_of}
use Rattle.atoi_column.proofs.lemmas.Items.{items_from-cases}

pub place_after-cons : (text : List ℕ) (texts : List (List ℕ)) → place_after (text ∷ texts) ≡ length text + 1 + place_after texts
place_after-cons text texts = sum_by-cons (λ t. length t + 1) text texts

place_after-some : (texts : List (List ℕ)) → 0 < length texts → 0 < place_after texts
place_after-some [] some = absurd (omega arith)
place_after-some (text ∷ texts) some = omega (arith, place_after-cons text texts)

-- One more byte in the first piece is one in all.
onto_first-place : (x : ℕ) (pieces : List (List ℕ)) → 0 < length pieces → place_after (onto_first x pieces) ≡ place_after pieces + 1
onto_first-place x [] some = absurd (omega arith)
onto_first-place x (piece ∷ pieces) some = omega (arith, place_after-cons (x ∷ piece) pieces, place_after-cons piece pieces)

-- Pieces with a separator each are one byte longer.
pub split-place : (p : ℕ → Bool) (xs : List ℕ) → place_after (slice_split p xs) ≡ length xs + 1
split-place p [] = omega (arith, place_after-cons [] [])
split-place p (x ∷ xs) =
    grind (arith, split-place p xs, place_after-cons [] (slice_split p xs), onto_first-place, length-slice_split p xs)

module _ (int : IntType) (law : FieldsArePrefixes int) (separator : ℕ) (separates : is_separator separator ≡ true) (bytes : ℕ) where
  abbrev ends : ℕ → Bool
  ends byte = byte == separator

  abbrev whole : List ℕ → Result ℤ Refusal
  whole text = parse_answer int true true text

  abbrev prefix : List ℕ → Result (ℤ × ℕ) Refusal
  prefix rest = parse_prefix_answer int true true rest

  abbrev IsInside : Result ℤ Flaw → Type 0
  IsInside item = IfErr item (λ flaw. (place_of flaw < bytes) × (index_of flaw < bytes))

  -- A byte of a refused field follows the number at its start.
  number-inside : (rest : List ℕ) (reason : Refusal) (v : ℤ) (count : ℕ)
      → whole (before_first ends rest) ≡ Err reason → prefix rest ≡ Ok (v, count) → count < length rest
  number-inside rest reason v count refused found =
      let first = law separator separates rest in
      elim (leb_tells (position_or_len ends rest) count) [
        | inl past ↦
            let end : count ≡ position_or_len ends rest = omega (arith, past.1, first.within v count found) in
            absurd (cc (first.to_field v (rw end at found), refused))
        | inr before ↦ omega (arith, before.1, prefix_len-le-length (λ byte. not (ends byte)) rest)
      ]

  flaw_at-inside : (index place : ℕ) (rest : List ℕ) (reason : Refusal) → whole (before_first ends rest) ≡ Err reason
      → 0 < length rest → place + length rest ≤ bytes → index < bytes → IsInside (Err (flaw_at index place (prefix rest)))
  flaw_at-inside index place rest reason refused some room fewer =
      grind (arith, number-inside rest reason, refused)

  items_from-inside : (index place : ℕ) (rest : List ℕ) (texts : List (List ℕ))
      → texts ≡ fields_of separator rest → index + length texts ≤ bytes
      → (0 < length rest → place + length rest ≤ bytes) → All IsInside (items_from whole prefix index place rest texts)
  items_from-inside index place rest [] are fewer room = All-nil IsInside
  items_from-inside index place rest (text ∷ texts) are fewer room =
      let some : 0 < length rest = omega (arith, ap length are, length-fields_of separator rest) in
      let here : place + length rest ≤ bytes = room some in
      let first = fields_of_first separator rest some in
      let text_is : text ≡ before_first ends rest = cc (are, first) in
      let texts_are : texts ≡ fields_of separator (after_first ends rest) = cc (are, first) in
      let len : length text ≡ position_or_len ends rest = ap length text_is ∙ length-prefix_len (λ byte. not (ends byte)) rest in
      let following =
      items_from-inside (index + 1) (place + length text + 1) (drop (length text + 1) rest) texts (rw len texts_are) (omega arith)
      (λ more. omega (arith, length-drop (length text + 1) rest)) in
      items_from-cases whole prefix (All IsInside) index place rest text texts
      (λ v. All-cons IsInside (Ok v) _ tt following)
      (λ reason refused. All-cons IsInside (Err (flaw_at index place (prefix rest))) []
      (flaw_at-inside index place rest reason (rw text_is at refused) some here (omega arith)) (All-nil IsInside))

pub items_left-inside : (int : IntType) → FieldsArePrefixes int → (separator : ℕ) → is_separator separator ≡ true → (input : List ℕ)
    → All (λ item. IfErr item (λ flaw. (place_of flaw < length input) × (index_of flaw < length input)))
    (items_left int separator 0 0 input)
unfolding items_left
items_left-inside int law separator separates input =
    items_from-inside int law separator separates (length input) 0 0 input
    (fields_of separator input) refl (omega (arith, length-fields_of separator input)) (λ some. omega arith)

module _ (cut : List ℕ → List ℕ) (answer : List ℕ → Result ℤ Refusal) (bytes : ℕ) where
  abbrev IsBadInside : Result ℤ BadField → Type 0
  IsBadInside item = IfErr item (λ bad. (bad.place < bytes) × (bad.index < bytes))

  field_item-inside : (index place : ℕ) (text : List ℕ) (r : Result ℤ Refusal)
      → place < bytes → index < bytes → IsBadInside (field_item index place text r)
  field_item-inside index place text r within fewer = grind arith

  items_of_parts-inside : (index place : ℕ) (parts : List (List ℕ)) → index ≤ place → place + place_after parts ≤ bytes + 1
      → All IsBadInside (items_of_parts cut answer index place parts)
  items_of_parts-inside index place [] fewer room = All-nil IsBadInside
  items_of_parts-inside index place (part ∷ []) fewer room =
      elim (eqb_tells (length part) 0) [
        | inl none ↦ rw none.0 (All-nil IsBadInside)
        | inr some ↦
            let within : place + length part ≤ bytes = omega (arith, place_after-cons part []) in
            rw some.0 (All-cons IsBadInside _ []
            (field_item-inside index place part (answer part) (omega arith) (omega (arith, some.1))) (All-nil IsBadInside))
      ]
  items_of_parts-inside index place (part ∷ next ∷ parts) fewer room =
      let within : place + length part + 1 + place_after (next ∷ parts) ≤ bytes + 1 = omega (arith, place_after-cons part (next ∷ parts)) in
      let more : 0 < place_after (next ∷ parts) = place_after-some (next ∷ parts) (omega arith) in
      All-cons IsBadInside _ _ (field_item-inside index place (cut part) (answer (cut part)) (omega arith) (omega arith))
      (items_of_parts-inside (index + 1) (place + length part + 1) (next ∷ parts) (omega arith) within)

pub field_items_left-inside : (int : IntType) (left : FieldsLeft) → left.index ≡ 0 → left.place ≡ 0
    → All (λ item. IfErr item (λ bad. (bad.place < length left.rest) × (bad.index < length left.rest))) (field_items_left int left)
unfolding field_items_left
field_items_left-inside int left first start =
    items_of_parts-inside (cut_of left.is_lines) (parse_answer int true true) (length left.rest) left.index left.place
    (slice_split (λ byte. byte == left.separator) left.rest) (omega arith)
    (omega (arith, split-place (λ byte. byte == left.separator) left.rest))
