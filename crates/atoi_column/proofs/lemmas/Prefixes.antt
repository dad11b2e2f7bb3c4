-- A field is accepted if and only if its number ends with it.
use Rattle.std.proofs.Common.{◌≡◌, ℕ, ◌+◌, ◌≤◌, ◌==◌, ◌&&◌, ◌||◌, not, Bool, true, false, cond, if◌then◌else◌, List, [], ◌∷◌, ◌++◌, length, take, drop, get_or, ℤ, Result, Ok, Err, refl, sym, ap, ◌∙◌, subst, inl, inr, arith, eqb-true}
use Rattle.std.specs.List.{prefix_len, position_or_len, before_first, after_first}
use Rattle.std.proofs.lemmas.List.{take-append-le, take-append-drop, take_all, drop_all, drop_more}
use Rattle.std.proofs.lemmas.List.Folds.{length-prefix_len}
use Rattle.std.proofs.lemmas.List.Sums.{prefix_len-le-length, split_at_first, passes_at_first}
use Rattle.std.proofs.lemmas.Bool.Decides.{leb_tells, nat_tests}
use Rattle.atoi_core.specs.Digit.{decimal_table, is_digit}
use Rattle.atoi_core.specs.Run.{run}
use Rattle.atoi_core.specs.Refusal.{Refusal}
use Rattle.atoi_core.specs.IntType.{IntType}
use Rattle.atoi_core.specs.Sign.{Sign, plus_sign, minus_sign, sign_of}
use Rattle.atoi_core.specs.Answer.{parse_answer}
use Rattle.atoi_core.specs.Text.{TextWrites, PrefixWrites, BeginsWithDigit}
use Rattle.atoi_core.specs.Laws.{looked_for, prefix_call, HaveSameRun, HaveSameOutcome, AcceptedNumbers, PrefixesAndRests, PrefixIsWhole, PrefixOfCut, RestChangesNothing}
use Rattle.atoi_column.specs.Fields.{is_separator}
use Rattle.atoi_column.specs.Laws.{FieldsArePrefixes, ResultsTellFields}
use Rattle.std.proofs.Math.Bool.{and-false}

-- A byte that fails `p` ends the prefix that passes.
prefix_len-stops : (p : ℕ → Bool) (b : ℕ) (ys : List ℕ) → p b ≡ false → (xs : List ℕ) → prefix_len p (xs ++ b ∷ ys) ≡ prefix_len p xs
prefix_len-stops p b ys fails [] = rw fails refl
prefix_len-stops p b ys fails (x ∷ xs) = ap (λ n. cond (p x) (1 + n) 0) (prefix_len-stops p b ys fails xs)

prefix-stops : (p : ℕ → Bool) (b : ℕ) (ys : List ℕ) → p b ≡ false → (xs : List ℕ)
    → take (prefix_len p xs) xs ≡ take (prefix_len p (xs ++ b ∷ ys)) (xs ++ b ∷ ys)
prefix-stops p b ys fails xs =
    rw (prefix_len-stops p b ys fails xs) (sym (take-append-le (prefix_len p xs) xs (b ∷ ys) (prefix_len-le-length p xs)))

-- The sign, if the first byte is a plus, a minus or neither.
abbrev sign_by : (is_plus is_minus : Bool) → ℕ → List ℕ → Sign
sign_by is_plus is_minus x xs =
    if is_plus then record { minus = false; taken = 1; body = xs }
    else (if is_minus then record { minus = true; taken = 1; body = xs }
    else record { minus = false; taken = 0; body = x ∷ xs })

record HaveSamePrefix (g h : Sign) : Type 0 where
  minus : g.minus ≡ h.minus
  taken : g.taken ≡ h.taken
  run : run decimal_table g.body ≡ run decimal_table h.body

module _ (b : ℕ) (ys : List ℕ) (fails : is_digit decimal_table b ≡ false) where
  same_run : (xs : List ℕ) → run decimal_table xs ≡ run decimal_table (xs ++ b ∷ ys)
  same_run xs = prefix-stops (is_digit decimal_table) b ys fails xs

  same_prefix : (is_plus is_minus : Bool) (x : ℕ) (xs : List ℕ)
      → HaveSamePrefix (sign_by is_plus is_minus x xs) (sign_by is_plus is_minus x (xs ++ b ∷ ys))
  same_prefix true is_minus x xs = record { minus = refl; taken = refl; run = same_run xs }
  same_prefix false true x xs = record { minus = refl; taken = refl; run = same_run xs }
  same_prefix false false x xs = record { minus = refl; taken = refl; run = same_run (x ∷ xs) }

record IsApart (byte : ℕ) : Type 0 where
  no_digit : is_digit decimal_table byte ≡ false
  no_plus : (byte == plus_sign) ≡ false
  no_minus : (byte == minus_sign) ≡ false

none_of_three : (a b c : Bool) → not (a || (b || c)) ≡ true → (a ≡ false) × (b ≡ false) × (c ≡ false)
none_of_three a b c h = grind (arith, nat_tests)

apart : (byte : ℕ) → is_separator byte ≡ true → IsApart byte
apart byte h =
    let none = none_of_three (is_digit decimal_table byte) (byte == plus_sign) (byte == minus_sign) h in
    record { no_digit = none.0; no_plus = none.1; no_minus = none.2 }

module _ (int : IntType) where
  same_run_before : (b : ℕ) (ys : List ℕ) → IsApart b → (xs : List ℕ) → HaveSameRun int (looked_for true) xs (xs ++ b ∷ ys)
  same_run_before b ys is [] =
      let none : sign_of int.signed true (b ∷ ys) ≡ record { minus = false; taken = 0; body = b ∷ ys } =
      rw (is.no_plus, is.no_minus, and-false int.signed) refl in
      record {
        minus = sym (ap (λ (g : Sign). g.minus) none);
        taken = sym (ap (λ (g : Sign). g.taken) none);
        run = prefix-stops (is_digit decimal_table) b ys is.no_digit [] ∙ sym (ap (λ (g : Sign). run decimal_table g.body) none);
      }
  same_run_before b ys is (x ∷ xs) =
      let front = same_prefix b ys is.no_digit (x == plus_sign) (int.signed && x == minus_sign) x xs in
      record { minus = front.minus; taken = front.taken; run = front.run }

  same_run_of_field : (separator : ℕ) → is_separator separator ≡ true → (rest : List ℕ)
      → HaveSameRun int (looked_for true) (before_first (λ byte. byte == separator) rest) rest
  same_run_of_field separator is rest =
      let p : ℕ → Bool = λ byte. byte == separator in
      elim (leb_tells (length rest) (position_or_len p rest)) [
        | inl absent ↦ rw (take_all (position_or_len p rest) rest absent.1) (record { minus = refl; taken = refl; run = refl })
        | inr found ↦
            let at : get_or rest (position_or_len p rest) 0 ≡ separator = eqb-true _ _ (passes_at_first p rest 0 found.1) in
            let cut : before_first p rest ++ (separator ∷ after_first p rest) ≡ rest =
            ap (λ b. before_first p rest ++ (b ∷ after_first p rest)) (sym at) ∙ sym (split_at_first p rest 0 found.1) in
            subst (λ r. HaveSameRun int (looked_for true) (before_first p rest) r) cut
            (same_run_before separator (after_first p rest) (apart separator is) (before_first p rest))
      ]

same_outcome-ok : {A : Type 0} (a b : Result A Refusal) (x : A) → HaveSameOutcome a b → a ≡ Ok x → b ≡ Ok x
same_outcome-ok a b x same h = grind arith

same_outcome-ok_back : {A : Type 0} (a b : Result A Refusal) (y : A) → HaveSameOutcome a b → b ≡ Ok y → a ≡ Ok y
same_outcome-ok_back a b y same h = grind arith

-- What `parse_prefix` finds at a field is no longer than the field.
within_field : (int : IntType) → PrefixOfCut int → RestChangesNothing int → (separator : ℕ) → is_separator separator ≡ true
    → (rest : List ℕ) (value : ℤ) (count : ℕ) → prefix_call int (looked_for true) true rest ≡ Ok (value, count)
    → count ≤ position_or_len (λ byte. byte == separator) rest
within_field int of_cut rest_changes separator is rest value count h =
    let p : ℕ → Bool = λ byte. byte == separator in
    let text : List ℕ = before_first p rest in
    let same = rest_changes (looked_for true) true text rest (same_run_of_field int separator is rest) in
    let cut = of_cut.cut (looked_for true) true text value count
    (same_outcome-ok_back (prefix_call int (looked_for true) true text) (prefix_call int (looked_for true) true rest)
    (value, count) same h) in
    omega (arith, cut.1, length-prefix_len (λ byte. not (p byte)) rest)

pub fields_are_prefixes : (int : IntType) → PrefixIsWhole int → PrefixOfCut int → RestChangesNothing int → FieldsArePrefixes int
fields_are_prefixes int is_whole of_cut rest_changes separator is rest =
    let p : ℕ → Bool = λ byte. byte == separator in
    let text : List ℕ = before_first p rest in
    let ends : length text ≡ position_or_len p rest = length-prefix_len (λ byte. not (p byte)) rest in
    let same = rest_changes (looked_for true) true text rest (same_run_of_field int separator is rest) in
    let of_text = prefix_call int (looked_for true) true text in
    let of_rest = prefix_call int (looked_for true) true rest in
    record {
      to_prefix = λ value h.
          same_outcome-ok of_text of_rest (value, position_or_len p rest) same
          (rw ends at (is_whole.back (looked_for true) true text value (inl refl) h));
      to_field = λ value h.
          is_whole.whole (looked_for true) true text value
          (rw ends (same_outcome-ok_back of_text of_rest (value, position_or_len p rest) same h));
      within = within_field int of_cut rest_changes separator is rest;
    }

-- No digit follows a field.
field_ends : (separator : ℕ) → is_separator separator ≡ true → (rest : List ℕ)
    → ¬ BeginsWithDigit (drop (position_or_len (λ byte. byte == separator) rest) rest)
field_ends separator is rest =
    let p : ℕ → Bool = λ byte. byte == separator in
    elim (leb_tells (length rest) (position_or_len p rest)) [
      | inl absent ↦ rw (drop_all (position_or_len p rest) rest absent.1) (λ none. none)
      | inr found ↦
          let at : get_or rest (position_or_len p rest) 0 ≡ separator = eqb-true _ _ (passes_at_first p rest 0 found.1) in
          let no_digit = (apart separator is).no_digit in
          rw (drop_more rest (position_or_len p rest) 0 found.1, at) (grind (arith, nat_tests))
    ]

module _ {T : Type 0} (int : IntType) (number : T → ℤ) (numbers : AcceptedNumbers int) (rests : PrefixesAndRests int)
    (of_cut : PrefixOfCut int) (rest_changes : RestChangesNothing int) where
  -- What writes the field is a prefix of `rest`.
  prefix_of_field : (separator : ℕ) → is_separator separator ≡ true → (rest : List ℕ) (value : ℤ)
      → parse_answer int true true (before_first (λ byte. byte == separator) rest) ≡ Ok value
      → PrefixWrites (TextWrites int true) rest value (position_or_len (λ byte. byte == separator) rest)
  prefix_of_field separator is rest value accepted =
      let p : ℕ → Bool = λ byte. byte == separator in
      let text : List ℕ = before_first p rest in
      let parts : rest ≡ text ++ drop (position_or_len p rest) rest = sym (take-append-drop (position_or_len p rest) rest) in
      rw (length-prefix_len (λ byte. not (p byte)) rest) at
      (rests.of_parts (looked_for true) rest text (drop (position_or_len p rest) rest) value parts
      (numbers.written (looked_for true) true text value accepted) (field_ends separator is rest))

  pub results_tell_fields : ResultsTellFields int number
  results_tell_fields separator is rest (Ok found) answer writes none =
      let end : ℕ = position_or_len (λ byte. byte == separator) rest in
      record {
        to_prefix = λ value accepted.
            let one = rests.only (looked_for true) rest (number found.0) value found.1 end writes
            (prefix_of_field separator is rest value accepted) in
            let same : Ok (number found.0, found.1) ≡ Ok (value, end) = rw (one.0, one.1) refl in
            sym answer ∙ same;
        to_field = λ value h.
            let same : (number found.0, found.1) ≡ (value, end) = cc (answer, h) in
            let value_is : number found.0 ≡ value = ap (λ (pair : ℤ × ℕ). pair.0) same in
            let count_is : found.1 ≡ end = ap (λ (pair : ℤ × ℕ). pair.1) same in
            numbers.accepted (looked_for true) (take end rest) value (rw (value_is, count_is) at writes.written);
        within = within_field int of_cut rest_changes separator is rest;
      }
  results_tell_fields separator is rest (Err error) answer writes none = record {
    to_prefix = λ value accepted. absurd (none value _ (prefix_of_field separator is rest value accepted));
    to_field = λ value h. absurd (cc (answer, h));
    within = within_field int of_cut rest_changes separator is rest;
  }
