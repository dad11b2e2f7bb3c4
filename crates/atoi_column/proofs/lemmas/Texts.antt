-- Items, by the fields that are texts of the type.
use Rattle.std.proofs.Common.{◌≡◌, ℕ, ◌+◌, true, List, [], ◌∷◌, ◌++◌, length, drop, map, ℤ, Result, Ok, Err, refl, ap, ◌∙◌, arith, zero-add, add-zero, drop-drop}
use Rattle.std.specs.List.{AllZip}
use Rattle.std.proofs.lemmas.List.Sums.{sum_by-cons}
use Rattle.atoi_core.specs.Refusal.{Refusal}
use Rattle.atoi_core.specs.IntType.{IntType}
use Rattle.atoi_core.specs.Answer.{parse_answer, parse_prefix_answer}
use Rattle.atoi_core.specs.Text.{IsText, TextWrites}
use Rattle.atoi_core.specs.Laws.{looked_for, AcceptedTexts, AcceptedNumbers}
use Rattle.atoi_column.specs.Fields.{fields_of}
use Rattle.atoi_column.specs.Items.{Flaw, flaw_at, items_from, items_left}
use Rattle.atoi_column.specs.Laws.{place_after, EndsItems, TextsAndItems}
use Rattle.atoi_column.proofs.lemmas.Items.{items_from-ok, items_from-err}

-- A field is accepted and writes its number, or is no text.
data IsRead (int : IntType) (whole : List ℕ → Result ℤ Refusal) (text : List ℕ) : Type 0 where
  accepted : (v : ℤ) → whole text ≡ Ok v → TextWrites int true text v → IsRead int whole text
  refused : ((v : ℤ) → whole text ≡ Ok v → ⊥) → ¬ IsText int text → IsRead int whole text

module _ (int : IntType) (whole : List ℕ → Result ℤ Refusal)
    (prefix : List ℕ → Result (ℤ × ℕ) Refusal) (read : (text : List ℕ) → IsRead int whole text) where
  -- `HasItems` for the fields from `index` and `place` on.
  record HasItemsFrom (index place : ℕ) (rest : List ℕ) (fields : List (List ℕ)) : Type 0 where
    texts : List (List ℕ)
    others : List (List ℕ)
    numbers : List ℤ
    last : List (Result ℤ Flaw)
    parts : fields ≡ texts ++ others
    written : AllZip (TextWrites int true) texts numbers
    items : items_from whole prefix index place rest fields ≡ map Ok numbers ++ last
    end : EndsItems int prefix (index + length texts) (place + place_after texts) (drop (place_after texts) rest) others last

  -- One more accepted field does not change the end.
  ends_after : (index place : ℕ) (rest text : List ℕ) (texts others : List (List ℕ)) (last : List (Result ℤ Flaw))
      → EndsItems int prefix (index + 1 + length texts) (place + length text + 1 + place_after texts)
      (drop (place_after texts) (drop (length text + 1) rest)) others last
      → EndsItems int prefix (index + length (text ∷ texts)) (place + place_after (text ∷ texts))
      (drop (place_after (text ∷ texts)) rest) others last
  ends_after index place rest text texts others last h =
      let further : place_after (text ∷ texts) ≡ length text + 1 + place_after texts = sum_by-cons (λ t. length t + 1) text texts in
      let count : index + length (text ∷ texts) ≡ index + 1 + length texts = omega arith in
      let place_is : place + (length text + 1 + place_after texts) ≡ place + length text + 1 + place_after texts = omega arith in
      rw (further, count, place_is, ← drop-drop (place_after texts) (length text + 1) rest) h

  has_items_from : (index place : ℕ) (rest : List ℕ) (fields : List (List ℕ)) → HasItemsFrom index place rest fields
  has_items_from index place rest [] =
      record { texts = []; others = []; numbers = []; last = []; parts = refl; written = tt; items = refl; end = refl }
  has_items_from index place rest (text ∷ fields) =
      let following = has_items_from (index + 1) (place + length text + 1) (drop (length text + 1) rest) fields in
      elim (read text) [
        | accepted v h is ↦ record {
          texts = text ∷ following.texts;
          others = following.others;
          numbers = v ∷ following.numbers;
          last = following.last;
          parts = ap (λ fs. text ∷ fs) following.parts;
          written = (is, following.written);
          items = items_from-ok whole prefix index place rest text fields v h ∙ ap (λ items. Ok v ∷ items) following.items;
          end = ends_after index place rest text following.texts following.others following.last following.end;
        }
        | refused h none ↦ record {
          texts = [];
          others = text ∷ fields;
          numbers = [];
          last = Err (flaw_at index place (prefix rest)) ∷ [];
          parts = refl;
          written = tt;
          items = items_from-err whole prefix index place rest text fields h;
          end = simp add-zero (none, refl);
        }
      ]

module _ (int : IntType) (texts : AcceptedTexts int) (numbers : AcceptedNumbers int) (text : List ℕ) where
  read_as : (r : Result ℤ Refusal) → parse_answer int true true text ≡ r → IsRead int (parse_answer int true true) text
  read_as (Ok v) h = accepted v h (numbers.written (looked_for true) true text v h)
  read_as (Err reason) h =
      refused (λ v ok. absurd (cc (h, ok))) (λ is. absurd (cc (h, texts.number text is.number is.written)))

  read_by_law : IsRead int (parse_answer int true true) text
  read_by_law = read_as (parse_answer int true true text) refl

pub texts_and_items : (int : IntType) → AcceptedTexts int → AcceptedNumbers int → TextsAndItems int
unfolding items_left
texts_and_items int texts numbers separator input =
    let read = read_by_law int texts numbers in
    let from = has_items_from int (parse_answer int true true)
    (parse_prefix_answer int true true) read 0 0 input (fields_of separator input) in
    record {
      texts = from.texts;
      others = from.others;
      numbers = from.numbers;
      last = from.last;
      fields = from.parts;
      written = from.written;
      items = from.items;
      end = simp zero-add at from.end;
    }
