-- Where the fields of errors begin.
use Rattle.std.proofs.Common.{◌≡◌, ℕ, ◌+◌, ◌-◌, ◌<◌, ◌≤◌, ◌==◌, true, false, not, inl, inr, if◌then◌else◌, Bool, List, [], ◌∷◌, ◌++◌, length, take, drop, length-drop, ℤ, Result, Ok, Err, refl, sym, ap, ◌∙◌, arith, append_assoc, append-nil, length-append}
use Rattle.std.specs.List.{slice_split, slice_index, position_or_len, before_first, after_first}
use Rattle.std.proofs.lemmas.List.{take-append-drop, drop-drop, nil_from_length}
use Rattle.std.proofs.lemmas.List.Folds.{length-prefix_len}
use Rattle.std.proofs.lemmas.List.Splits.{slice_split_first}
use Rattle.std.proofs.lemmas.Bool.Decides.{leb_tells}
use Rattle.atoi_core.specs.Refusal.{Refusal}
use Rattle.atoi_core.specs.IntType.{IntType}
use Rattle.atoi_core.specs.Answer.{parse_answer}
use Rattle.atoi_column.specs.FieldItems.{BadField, cut_of, field_item, field_items_left}
use Rattle.atoi_column.specs.FirstField.{first_text}
use Rattle.atoi_column.specs.Laws.{place_after, IsPlaced, ErrorsArePlaced}
use Rattle.atoi_column.proofs.lemmas.FieldItems.{first_item, left_before, field_items_left-empty, first_field_step}
use Rattle.atoi_column.proofs.lemmas.Places.{place_after-cons}

part_begins : (is_lines : Bool) (part : List ℕ) → (following : List ℕ) × (part ≡ cut_of is_lines part ++ following)
part_begins false part = ([], sym (append-nil part))
part_begins true part =
    let last = length part - 1 in
    elim (slice_index part last == 13) as (λ b. (following : List ℕ) × (part ≡ (if b then take last part else part) ++ following)) [
      | true ↦ (drop last part, sym (take-append-drop last part))
      | false ↦ ([], sym (append-nil part))
    ]

field_item-err : (index place : ℕ) (text : List ℕ) (r : Result ℤ Refusal) (bad : BadField) → field_item index place text r ≡ Err bad
    → (bad.index ≡ index) × (bad.place ≡ place) × (bad.text ≡ text)
field_item-err index place text r bad same = grind arith

module _ (int : IntType) (is_lines : Bool) (separator : ℕ) (input : List ℕ) where
  abbrev ends : ℕ → Bool
  ends byte = byte == separator

  abbrev left : (index : ℕ) → List ℕ → List (Result ℤ BadField)
  left index rest = field_items_left int (left_before is_lines separator index (length input) rest)

  abbrev place_of : List ℕ → ℕ
  place_of rest = length input - length rest

  text_begins : (rest : List ℕ) → (following : List ℕ) × (rest ≡ first_text (cut_of is_lines) separator rest ++ following)
  text_begins rest =
      let field = before_first ends rest in
      let tail = drop (position_or_len ends rest) rest in
      let begins = part_begins is_lines field in
      elim (position_or_len ends rest == length rest) as
      (λ b. (following : List ℕ) × (rest ≡ (if b then rest else cut_of is_lines field) ++ following)) [
        | true ↦ ([], sym (append-nil rest))
        | false ↦ (
          begins.0 ++ tail,
          sym (take-append-drop (position_or_len ends rest) rest)
              ∙ (ap (λ bytes. bytes ++ tail) begins.1 ∙ append_assoc (cut_of is_lines field) begins.0 tail),
        )
      ]

  -- `rest` is the end of the input, where the field `index` begins.
  record IsPlacedIn (index : ℕ) (rest : List ℕ) (before : List (Result ℤ BadField)) (bad : BadField) : Type 0 where
    index_is : bad.index ≡ index + length before
    place_is : bad.place ≡ place_of rest + place_after (take (length before) (slice_split ends rest))
    following : List ℕ
    text_is : drop bad.place input ≡ bad.text ++ following

  -- The first item: its place is the start of `rest`.
  placed_first : (bad : BadField) (index : ℕ) (rest : List ℕ) → drop (place_of rest) input ≡ rest
      → field_item index (place_of rest) (first_text (cut_of is_lines) separator rest)
      (parse_answer int true true (first_text (cut_of is_lines) separator rest)) ≡ Err bad
      → IsPlacedIn index rest [] bad
  placed_first bad index rest is same =
      let item = field_item-err index (place_of rest) (first_text (cut_of is_lines) separator rest) _ bad same in
      let begins = text_begins rest in
      record {
        index_is = omega (arith, item.0);
        place_is = omega (arith, item.1);
        following = begins.0;
        text_is = rw (item.1, is, item.2) begins.1;
      }

  -- A later item, after a field that a separator ends.
  placed_later : (item : Result ℤ BadField) (before : List (Result ℤ BadField)) (bad : BadField) (index : ℕ) (rest : List ℕ)
      → length rest ≤ length input → position_or_len ends rest < length rest
      → IsPlacedIn (index + 1) (after_first ends rest) before bad → IsPlacedIn index rest (item ∷ before) bad
  placed_later item before bad index rest within found later =
      let field = before_first ends rest in
      let others = slice_split ends (after_first ends rest) in
      let len : length field ≡ position_or_len ends rest = length-prefix_len (λ byte. not (ends byte)) rest in
      let left_over : length (after_first ends rest) ≡ length rest - (position_or_len ends rest + 1) =
      length-drop (position_or_len ends rest + 1) rest in
      let parts : slice_split ends rest ≡ field ∷ others = slice_split_first ends rest 0 found in
      let sum : place_after (field ∷ take (length before) others) ≡ length field + 1 + place_after (take (length before) others) =
      place_after-cons field (take (length before) others) in
      record {
        index_is = omega (arith, later.index_is);
        place_is = rw parts (omega (arith, later.place_is, sum, len, left_over));
        following = later.following;
        text_is = later.text_is;
      }

  some_left : (before after : List (Result ℤ BadField)) (bad : BadField) (index : ℕ) (rest : List ℕ)
      → left index rest ≡ before ++ Err bad ∷ after → 0 < length rest
  some_left before after bad index rest same =
      elim (leb_tells (length rest) 0) [
        | inl none ↦
            let nothing : rest ≡ [] = nil_from_length rest (omega (arith, none.1)) in
            let empty : left index rest ≡ [] =
            field_items_left-empty int (left_before is_lines separator index (length input) rest) nothing in
            omega (arith, ap length (sym empty ∙ same), length-append before (Err bad ∷ after))
        | inr some ↦ some.1
      ]

  -- The first item, and what is left after it.
  first_step : (index : ℕ) (rest : List ℕ) → 0 < length rest → length rest ≤ length input
      → left index rest ≡ first_item int (left_before is_lines separator index (length input) rest)
      ∷ left (index + 1) (after_first ends rest)
  first_step index rest some within =
      (first_field_step int {is_lines = is_lines} {separator = separator} {index = index}
      {end = length input} {rest = rest} refl some within refl refl).0

  -- What follows the first separator is the end of the input, too.
  following_is : (rest : List ℕ) → length rest ≤ length input → position_or_len ends rest < length rest → drop (place_of rest) input ≡ rest
      → drop (place_of (after_first ends rest)) input ≡ after_first ends rest
  following_is rest within found is =
      let count = position_or_len ends rest + 1 in
      let place : place_of (after_first ends rest) ≡ place_of rest + count = omega (arith, length-drop count rest) in
      ap (λ n. drop n input) place ∙ (sym (drop-drop count (place_of rest) input) ∙ ap (drop count) is)

  placed : (before after : List (Result ℤ BadField)) (bad : BadField) (index : ℕ) (rest : List ℕ)
      → length rest ≤ length input → drop (place_of rest) input ≡ rest
      → left index rest ≡ before ++ Err bad ∷ after → IsPlacedIn index rest before bad
  placed [] after bad index rest within is same =
      let first = first_step index rest (some_left [] after bad index rest same) within in
      placed_first bad index rest is (cc (first, same))
  placed (item ∷ before) after bad index rest within is same =
      let following = after_first ends rest in
      let left_over : length following ≡ length rest - (position_or_len ends rest + 1) = length-drop (position_or_len ends rest + 1) rest in
      let first = first_step index rest (some_left (item ∷ before) after bad index rest same) within in
      let later : left (index + 1) following ≡ before ++ Err bad ∷ after = cc (first, same) in
      let some = some_left before after bad (index + 1) following later in
      let found : position_or_len ends rest < length rest = omega (arith, left_over, some) in
      placed_later item before bad index rest within found
      (placed before after bad (index + 1) following (omega (arith, left_over)) (following_is rest within found is) later)

  is_placed : (before after : List (Result ℤ BadField)) (bad : BadField)
      → field_items_left int (record { is_lines = is_lines; separator = separator; index = 0; place = 0; rest = input })
      ≡ before ++ Err bad ∷ after
      → IsPlaced separator input before bad
  is_placed before after bad same =
      let start : place_of input ≡ 0 = omega arith in
      let all = placed before after bad 0 input (omega arith) (rw start refl) (rw start same) in
      let index : bad.index ≡ length before = omega (arith, all.index_is) in
      record {
        index_is = index;
        place_is = rw index (omega (arith, all.place_is));
        following = all.following;
        text_is = all.text_is;
      }

pub errors_are_placed : (int : IntType) → ErrorsArePlaced int
errors_are_placed int = record {
  fields = λ separator input. is_placed int false separator input;
  lines = λ input. is_placed int true 10 input;
}
