-- Items read one after another: nothing follows an error.
use Rattle.std.proofs.Common.{◌≡◌, ℕ, ◌+◌, true, List, [], ◌∷◌, ◌++◌, length, drop, map, ℤ, Result, Ok, Err, refl, sym, ap, ◌∙◌, arith, append_assoc, append-nil, length-append}
use Rattle.std.proofs.lemmas.List.{map-append, length-map}
use Rattle.atoi_core.specs.Refusal.{Refusal}
use Rattle.atoi_core.specs.IntType.{IntType}
use Rattle.atoi_core.specs.Answer.{parse_answer, parse_prefix_answer}
use Rattle.atoi_column.specs.Fields.{fields_of}
use Rattle.atoi_column.specs.Items.{Flaw, flaw_at, items_from, items_left, items_of}
use Rattle.atoi_column.specs.Laws.{HaveRead, ItemsInTurn}
use Rattle.atoi_column.proofs.lemmas.Items.{items_from-cases}

after_value : (value : ℤ) (items : List (Result ℤ Flaw)) (numbers : List ℤ) (flaw : Flaw) (after : List (Result ℤ Flaw))
    → Ok value ∷ items ≡ map Ok numbers ++ Err flaw ∷ after → (others : List ℤ) × (items ≡ map Ok others ++ Err flaw ∷ after)
after_value value items [] flaw after same = absurd (cc)
after_value value items (number ∷ numbers) flaw after same = (numbers, cc)

after_flaw : (other : Flaw) (numbers : List ℤ) (flaw : Flaw) (after : List (Result ℤ Flaw))
    → Err other ∷ [] ≡ map Ok numbers ++ Err flaw ∷ after → after ≡ []
after_flaw other [] flaw after same = cc
after_flaw other (number ∷ numbers) flaw after same = absurd (cc)

module _ (whole : List ℕ → Result ℤ Refusal) (prefix : List ℕ → Result (ℤ × ℕ) Refusal) (flaw : Flaw) (after : List (Result ℤ Flaw)) where
  following_error : (index place : ℕ) (rest : List ℕ) (texts : List (List ℕ)) (numbers : List ℤ)
      → items_from whole prefix index place rest texts ≡ map Ok numbers ++ Err flaw ∷ after → after ≡ []
  following_error index place rest [] [] same = absurd (cc)
  following_error index place rest [] (number ∷ numbers) same = absurd (cc)
  following_error index place rest (text ∷ texts) numbers same =
      items_from-cases whole prefix (λ items. items ≡ map Ok numbers ++ Err flaw ∷ after → after ≡ []) index place rest text texts
      (λ value same. let others = after_value value _ numbers flaw after same in
      following_error (index + 1) (place + length text + 1) (drop (length text + 1) rest) texts others.0 others.1)
      (λ reason h. after_flaw (flaw_at index place (prefix rest)) numbers flaw after) same

after_error : (int : IntType) (separator : ℕ) (input : List ℕ) (numbers : List ℤ) (flaw : Flaw) (after : List (Result ℤ Flaw))
    → items_of int separator input ≡ map Ok numbers ++ Err flaw ∷ after → after ≡ []
unfolding items_left
after_error int separator input numbers flaw after same =
    following_error (parse_answer int true true) (parse_prefix_answer int true true)
    flaw after 0 0 input (fields_of separator input) numbers same

more_values : (items left after : List (Result ℤ Flaw)) (numbers values : List ℤ) → HaveRead items numbers left
    → left ≡ map Ok values ++ after → HaveRead items (numbers ++ values) after
more_values items left after numbers values read next =
    let ok : ℤ → Result ℤ Flaw = λ value. Ok value in
    let sizes = ap length next ∙ length-append (map ok values) after in
    record {
      parts = read.parts ∙ (ap (λ rest. map Ok numbers ++ rest) next
          ∙ (sym (append_assoc (map Ok numbers) (map Ok values) after)
          ∙ ap (λ values. values ++ after) (sym (map-append Ok numbers values))));
      count = omega (arith, read.count, sizes, length-map values ok, length-append numbers values);
    }

pub items_in_turn : ItemsInTurn
items_in_turn = record {
  start = λ items. record { parts = refl; count = omega arith };
  more = λ items left after numbers number. more_values items left after numbers (number ∷ []);
  more_values = more_values;
  all = λ items left numbers read none. read.parts ∙ (ap (λ rest. map Ok numbers ++ rest) none ∙ append-nil (map Ok numbers));
  after_error = after_error;
  at_error = λ int separator input numbers left after flaw read next.
      let same : items_of int separator input ≡ map Ok numbers ++ Err flaw ∷ after =
      read.parts ∙ ap (λ rest. map Ok numbers ++ rest) next in
      same ∙ ap (λ rest. map Ok numbers ++ Err flaw ∷ rest) (after_error int separator input numbers flaw after same);
}
