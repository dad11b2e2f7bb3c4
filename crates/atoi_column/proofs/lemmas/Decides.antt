-- The items of an input decide what its fields are.
use Rattle.std.proofs.Common.{◌≡◌, ℕ, ◌+◌, true, List, [], ◌∷◌, ◌++◌, length, drop, map, ℤ, Result, Ok, Err, refl, sym, ap, subst, ◌∙◌, arith, append-nil, length-append}
use Rattle.std.specs.List.{All, AllZip}
use Rattle.std.proofs.lemmas.List.Elements.{All-nil, All-cons}
use Rattle.atoi_core.specs.Refusal.{Refusal}
use Rattle.atoi_core.specs.IntType.{IntType}
use Rattle.atoi_core.specs.Answer.{parse_prefix_answer}
use Rattle.atoi_core.specs.Text.{IsText, TextWrites}
use Rattle.atoi_column.specs.Fields.{fields_of}
use Rattle.atoi_column.specs.Items.{Flaw, flaw_at, index_of, place_of, items_of}
use Rattle.atoi_column.specs.Laws.{HasItems, EndsItems, TextsAndItems, IsFirstBad, ItemsDecide, place_after, number_len}
use Rattle.atoi_column.proofs.lemmas.Fields.{length-fields_of}

abbrev starts_with_value : List (Result ℤ Flaw) → Type 0
starts_with_value items = (v : ℤ) × (others : List (Result ℤ Flaw)) × (items ≡ Ok v ∷ others)

-- A list splits in one way into values and a rest that does not start with a value.
same_split : (numbers values : List ℤ) (left last : List (Result ℤ Flaw)) → ¬ starts_with_value left → ¬ starts_with_value last
    → map Ok numbers ++ left ≡ map Ok values ++ last → (numbers ≡ values) × (left ≡ last)
same_split [] [] left last p q same = (refl, same)
same_split [] (value ∷ values) left last p q same = absurd (p (value, map Ok values ++ last, same))
same_split (number ∷ numbers) [] left last p q same = absurd (q (number, map Ok numbers ++ left, sym same))
same_split (number ∷ numbers) (value ∷ values) left last p q same =
    let first : number ≡ value = cc in
    let others = same_split numbers values left last p q (cc) in
    (cc (first, others.0), others.1)

pub index_of-flaw_at : (index place : ℕ) (read : Result (ℤ × ℕ) Refusal) → index_of (flaw_at index place read) ≡ index
index_of-flaw_at index place read = grind arith

pub place_of-flaw_at : (index place : ℕ) (read : Result (ℤ × ℕ) Refusal) → place_of (flaw_at index place read) ≡ place + number_len read
place_of-flaw_at index place read = grind arith

texts_of : (int : IntType) (texts : List (List ℕ)) (values : List ℤ) → AllZip (TextWrites int true) texts values → All (IsText int) texts
texts_of int [] [] written = All-nil (IsText int)
texts_of int [] (value ∷ values) written = elim written [ ]
texts_of int (text ∷ texts) [] written = elim written [ ]
texts_of int (text ∷ texts) (value ∷ values) written =
    All-cons (IsText int) text texts (record { number = value; written = written.0 }) (texts_of int texts values written.1)

module _ (int : IntType) (separator : ℕ) (input : List ℕ) (has : HasItems int separator input) where
  abbrev place : ℕ
  place = place_after has.texts

  abbrev ends : List (List ℕ) → List (Result ℤ Flaw) → Type 0
  ends others last = EndsItems int (parse_prefix_answer int true true) (length has.texts) place (drop place input) others last

  no_value : (others : List (List ℕ)) (last : List (Result ℤ Flaw)) → ends others last → ¬ starts_with_value last
  no_value [] last end starts = absurd (cc (end, starts.2))
  no_value (field ∷ others) last end starts = absurd (cc (end.1, starts.2))

  all_written : (numbers : List ℤ) (others : List (List ℕ)) (last : List (Result ℤ Flaw))
      → fields_of separator input ≡ has.texts ++ others → ends others last
      → (numbers ≡ has.numbers) × ([] ≡ last) → AllZip (TextWrites int true) (fields_of separator input) numbers
  all_written numbers [] last parts end same =
      let written = subst (AllZip (TextWrites int true) has.texts) (sym same.0) has.written in
      subst (λ fields. AllZip (TextWrites int true) fields numbers) (sym (parts ∙ append-nil has.texts)) written
  all_written numbers (field ∷ others) last parts end same = absurd (cc (end.1, same.1))

  bad_of : (flaw : Flaw) (others : List (List ℕ)) (last : List (Result ℤ Flaw))
      → fields_of separator input ≡ has.texts ++ others → ends others last
      → Err flaw ∷ [] ≡ last → IsFirstBad int separator input (index_of flaw) (place_of flaw)
  bad_of flaw [] last parts end same = absurd (cc (end, same))
  bad_of flaw (field ∷ others) last parts end same =
      let read : Result (ℤ × ℕ) Refusal = parse_prefix_answer int true true (drop place input) in
      let flaw_is : flaw ≡ flaw_at (length has.texts) place read = cc (same, end.1) in
      let index : index_of flaw ≡ length has.texts = ap index_of flaw_is ∙ index_of-flaw_at (length has.texts) place read in
      record {
        before = has.texts;
        field = field;
        others = others;
        parts = parts;
        good = texts_of int has.texts has.numbers has.written;
        bad = end.0;
        index_is = index;
        index_within = omega (arith, index, ap length parts, length-append has.texts (field ∷ others), length-fields_of separator input);
        place_is = ap place_of flaw_is ∙ place_of-flaw_at (length has.texts) place read;
      }

  split : (numbers : List ℤ) (left : List (Result ℤ Flaw)) → ¬ starts_with_value left
      → items_of int separator input ≡ map Ok numbers ++ left
      → (numbers ≡ has.numbers) × (left ≡ has.last)
  split numbers left none same =
      same_split numbers has.numbers left has.last none (no_value has.others has.last has.end) (sym same ∙ has.items)

pub items_decide : (int : IntType) → TextsAndItems int → ItemsDecide int
items_decide int law = record {
  whole = λ separator input numbers same.
      let has = law separator input in
      all_written int separator input has numbers has.others has.last has.fields has.end
      (split int separator input has numbers [] (λ starts. absurd (cc starts.2)) (same ∙ sym (append-nil (map Ok numbers))));
  first_bad = λ separator input numbers flaw same.
      let has = law separator input in
      bad_of int separator input has flaw has.others has.last has.fields has.end
      (split int separator input has numbers (Err flaw ∷ []) (λ starts. absurd (cc starts.2)) same).1;
}
