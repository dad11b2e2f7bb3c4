-- An input that is cut after a separator has the items of its pieces.
use Rattle.std.proofs.Common.{◌≡◌, ℕ, ◌+◌, ◌<◌, ◌==◌, true, false, if◌then◌else◌, inl, inr, Bool, List, [], ◌∷◌, ◌++◌, length, ℤ, Result, refl, ap, ◌∙◌, arith, append_assoc, add-zero, length-append, length-drop, eq-eqb}
use Rattle.std.specs.List.{slice_split, onto_first, position_or_len, after_first}
use Rattle.std.proofs.lemmas.List.Splits.{length-slice_split}
use Rattle.atoi_core.specs.Refusal.{Refusal}
use Rattle.atoi_core.specs.IntType.{IntType}
use Rattle.atoi_core.specs.Answer.{parse_answer}
use Rattle.atoi_column.specs.FieldItems.{BadField, FieldsLeft, cut_of, field_item, items_of_parts, after_first_field, field_items_left}
use Rattle.atoi_column.specs.Laws.{place_after, IsPiece, end_of, PiecesInTurn}
use Rattle.atoi_column.proofs.lemmas.FieldItems.{part_then, field_items_left-empty}
use Rattle.atoi_column.proofs.lemmas.Places.{place_after-cons, split-place}

-- A separator between two texts ends the last part of the first.
onto_first-append : (x : ℕ) (parts others : List (List ℕ)) → 0 < length parts
    → onto_first x (parts ++ others) ≡ onto_first x parts ++ others
onto_first-append x [] others some = absurd (omega arith)
onto_first-append x (part ∷ parts) others some = refl

split_between : (p : ℕ → Bool) (xs : List ℕ) (y : ℕ) (ys : List ℕ) → p y ≡ true
    → slice_split p (xs ++ y ∷ ys) ≡ slice_split p xs ++ slice_split p ys
split_between p [] y ys ends = rw ends refl
split_between p (x ∷ xs) y ys ends =
    let some : 0 < length (slice_split p xs) = omega (arith, length-slice_split p xs) in
    grind (arith, split_between p xs y ys ends, onto_first-append x (slice_split p xs) (slice_split p ys) some)

module _ (cut : List ℕ → List ℕ) (answer : List ℕ → Result ℤ Refusal) where
  -- The items of ended parts, and then of others.
  items_between : (index place : ℕ) (parts others : List (List ℕ)) → 0 < length others
      → items_of_parts cut answer index place (parts ++ others)
      ≡ items_of_parts cut answer index place (parts ++ [] ∷ [])
      ++ items_of_parts cut answer (index + length parts) (place + place_after parts) others
  items_between index place [] others some = simp add-zero
  items_between index place (part ∷ parts) others some =
      let first : index + length (part ∷ parts) ≡ index + 1 + length parts = omega arith in
      let start : place + place_after (part ∷ parts) ≡ place + length part + 1 + place_after parts =
      omega (arith, place_after-cons part parts) in
      let joined = part_then cut answer index place part (parts ++ others) (omega (arith, length-append parts others)) in
      let ended = part_then cut answer index place part (parts ++ [] ∷ []) (omega (arith, length-append parts ([] ∷ []))) in
      rw (joined, ended, first, start)
      (ap (λ items. field_item index place (cut part) (answer (cut part)) ∷ items)
      (items_between (index + 1) (place + length part + 1) parts others some))

  length-ended : (index place : ℕ) (parts : List (List ℕ))
      → length (items_of_parts cut answer index place (parts ++ [] ∷ [])) ≡ length parts
  length-ended index place [] = refl
  length-ended index place (part ∷ parts) =
      rw (part_then cut answer index place part (parts ++ [] ∷ []) (omega (arith, length-append parts ([] ∷ []))))
      (omega (arith, length-ended (index + 1) (place + length part + 1) parts))

module _ (int : IntType) where
  cut_after : (left : FieldsLeft) (more : List ℕ) → IsPiece left.separator left.rest
      → field_items_left int (record left { rest = left.rest ++ more })
      ≡ field_items_left int left ++ field_items_left int (record (end_of int left) { rest = more })
  unfolding field_items_left
  cut_after left more (inl none) = rw none (simp add-zero)
  cut_after left more (inr ended) =
      let front = ended.0 in
      let ends : ℕ → Bool = λ byte. byte == left.separator in
      let cut : List ℕ → List ℕ = cut_of left.is_lines in
      let answer : List ℕ → Result ℤ Refusal = parse_answer int true true in
      let parts = slice_split ends front in
      let same : ends left.separator ≡ true = eq-eqb left.separator left.separator refl in
      let piece : slice_split ends left.rest ≡ parts ++ [] ∷ [] = rw ended.1 (split_between ends front left.separator [] same) in
      let all : slice_split ends (left.rest ++ more) ≡ parts ++ slice_split ends more =
      rw (ended.1, append_assoc) (split_between ends front left.separator more same) in
      let size : length left.rest ≡ place_after parts =
      omega (arith, split-place ends front, ap length ended.1, length-append front (left.separator ∷ [])) in
      rw (all, piece, length-ended cut answer left.index left.place parts, size)
      (items_between cut answer left.index left.place parts (slice_split ends more) (omega (arith, length-slice_split ends more)))

  step_to_end : (old new : FieldsLeft) (item : Result ℤ BadField) → field_items_left int old ≡ item ∷ field_items_left int new
      → new ≡ after_first_field old → end_of int new ≡ end_of int old
  step_to_end old new item items moved =
      let following = after_first (λ byte. byte == old.separator) old.rest in
      let is_lines : new.is_lines ≡ old.is_lines = ap (λ left. left.is_lines) moved in
      let separator : new.separator ≡ old.separator = ap (λ left. left.separator) moved in
      let rest : new.rest ≡ following = ap (λ left. left.rest) moved in
      let index : new.index + length (field_items_left int new) ≡ old.index + length (field_items_left int old) =
      omega (arith, ap length items, ap (λ left. left.index) moved) in
      let left_over = length-drop (position_or_len (λ byte. byte == old.separator) old.rest + 1) old.rest in
      let place : new.place + length new.rest ≡ old.place + length old.rest =
      omega (arith, ap (λ left. left.place) moved, ap length rest, left_over) in
      rw (index, place, is_lines, separator) refl

  at_end : (left : FieldsLeft) → left.rest ≡ [] → end_of int left ≡ left
  at_end left none =
      let index : left.index + length (field_items_left int left) ≡ left.index =
      omega (arith, ap length (field_items_left-empty int left none)) in
      let place : left.place + length left.rest ≡ left.place = omega (arith, ap length none) in
      rw (index, place, ← none) refl

pub pieces_in_turn : (int : IntType) → PiecesInTurn int
pieces_in_turn int = record { cut = cut_after int; step = step_to_end int; end = at_end int }
