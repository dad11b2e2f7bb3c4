-- The first item of what is left, in each case of `next`.
use Rattle.std.proofs.Common.{◌≡◌, ◌≢◌, ℕ, ◌+◌, ◌<◌, ◌≤◌, ◌==◌, true, not, inl, inr, Some, List, [], ◌∷◌, length, drop, length-drop, get_or, Bool, ℤ, Result, Ok, Err, refl, sym, ap, subst, ◌∙◌, arith}
use Rattle.std.specs.List.{position_or_len, before_first, after_first}
use Rattle.std.proofs.lemmas.List.{drop_all, drop_more, nil_from_length}
use Rattle.std.proofs.lemmas.List.Folds.{length-prefix_len}
use Rattle.std.proofs.lemmas.List.Sums.{prefix_len-le-length, passes_at_first, fails_before_first}
use Rattle.std.proofs.lemmas.Bool.{eqb-true, eq-eqb, false≢true, cases_lt}
use Rattle.std.proofs.lemmas.Bool.Decides.{leb_tells, nat_tests}
use Rattle.std.specs.Iterator.{MakesProgress, item_count}
use Rattle.atoi_core.specs.Refusal.{Refusal}
use Rattle.atoi_core.specs.IntType.{IntType}
use Rattle.atoi_core.specs.Answer.{parse_answer, parse_prefix_answer}
use Rattle.atoi_column.specs.Fields.{fields_of}
use Rattle.atoi_column.specs.Items.{Flaw, field, trailing, flaw_at, items_from, items_left}
use Rattle.atoi_column.specs.Laws.{FieldIsPrefix}
use Rattle.atoi_column.proofs.lemmas.Fields.{fields_of_first, length-fields_of}

module _ (whole : List ℕ → Result ℤ Refusal) (prefix : List ℕ → Result (ℤ × ℕ) Refusal) where
  pub items_from-ok : (index place : ℕ) (rest text : List ℕ) (texts : List (List ℕ)) (v : ℤ) → whole text ≡ Ok v
      → items_from whole prefix index place rest (text ∷ texts)
      ≡ Ok v ∷ items_from whole prefix (index + 1) (place + length text + 1) (drop (length text + 1) rest) texts
  items_from-ok index place rest text texts v h = rw (h, items_from) refl

  pub items_from-err : (index place : ℕ) (rest text : List ℕ) (texts : List (List ℕ)) → ((v : ℤ) → whole text ≡ Ok v → ⊥)
      → items_from whole prefix index place rest (text ∷ texts) ≡ Err (flaw_at index place (prefix rest)) ∷ []
  items_from-err index place rest text texts refused =
      grind (arith, refused)

  -- What holds after an accepted and a refused field holds.
  pub items_from-cases : (P : List (Result ℤ Flaw) → Type 0) (index place : ℕ) (rest text : List ℕ) (texts : List (List ℕ))
      → ((v : ℤ) → P (Ok v ∷ items_from whole prefix (index + 1) (place + length text + 1) (drop (length text + 1) rest) texts))
      → ((reason : Refusal) → whole text ≡ Err reason → P (Err (flaw_at index place (prefix rest)) ∷ []))
      → P (items_from whole prefix index place rest (text ∷ texts))
  items_from-cases P index place rest text texts accepted refused =
      elim (whole text) as (λ r. whole text ≡ r → P (elim r as (λ _. List (Result ℤ Flaw)) [
        | Ok value ↦ Ok value ∷ items_from whole prefix (index + 1) (place + length text + 1) (drop (length text + 1) rest) texts
        | Err reason ↦ Err (flaw_at index place (prefix rest)) ∷ []
      ])) [
        | Ok value ↦ λ _. accepted value
        | Err reason ↦ refused reason
      ] refl

  length-items_from : (index place : ℕ) (rest : List ℕ) (texts : List (List ℕ))
      → length (items_from whole prefix index place rest texts) ≤ length texts
  length-items_from index place rest [] = omega arith
  length-items_from index place rest (text ∷ texts) =
      items_from-cases (λ items. length items ≤ length (text ∷ texts)) index place rest text texts
      (λ v. omega (arith, length-items_from (index + 1) (place + length text + 1) (drop (length text + 1) rest) texts))
      (λ reason h. omega arith)

pub drop_first : (n : ℕ) (xs : List ℕ) (b : ℕ) (ys : List ℕ) → drop n xs ≡ b ∷ ys
    → (n < length xs) × (get_or xs n 0 ≡ b) × (drop (n + 1) xs ≡ ys)
drop_first n xs b ys h =
    let none = drop_all n xs in
    let more = drop_more xs n 0 in
    grind (arith, cases_lt n (length xs), none, more, h)

same_count : (read : Result (ℤ × ℕ) Refusal) (v w : ℤ) (m n : ℕ) → read ≡ Ok (v, m) → read ≡ Ok (w, n) → m ≡ n
same_count read v w m n h k = let pair : (v, m) ≡ (w, n) = cc in ap (λ (p : ℤ × ℕ). p.1) pair

module _ (int : IntType) (separator index place : ℕ) where
  items_left-nil : items_left int separator index place [] ≡ []
  unfolding items_left
  items_left-nil = refl

  pub items_left-empty : (rest : List ℕ) → length rest ≡ 0 → items_left int separator index place rest ≡ []
  items_left-empty [] h = items_left-nil
  items_left-empty (byte ∷ bytes) h = absurd (omega arith)

  pub some-items_left : (rest : List ℕ) → 0 < length rest → 0 < length (items_left int separator index place rest)
  unfolding items_left
  some-items_left rest some =
      let text = before_first (λ byte. byte == separator) rest in
      let texts = fields_of separator (after_first (λ byte. byte == separator) rest) in
      rw (fields_of_first separator rest some) (items_from-cases (parse_answer int true true) (parse_prefix_answer int true true)
      (λ items. 0 < length items) index place rest text texts (λ v. omega arith) (λ reason h. omega arith))

  pub length-items_left : (rest : List ℕ) → length (items_left int separator index place rest) ≤ length rest
  unfolding items_left
  length-items_left rest =
      let items = length-items_from (parse_answer int true true) (parse_prefix_answer int true true) index place rest
      (fields_of separator rest) in
      omega (arith, items, length-fields_of separator rest)

abbrev whole : IntType → List ℕ → Result ℤ Refusal
whole int = parse_answer int true true

abbrev prefix : IntType → List ℕ → Result (ℤ × ℕ) Refusal
prefix int = parse_prefix_answer int true true

abbrev ends : (separator : ℕ) → ℕ → Bool
ends separator byte = byte == separator

abbrev field_end : (separator : ℕ) → List ℕ → ℕ
field_end separator rest = position_or_len (ends separator) rest

-- A field begins at `place`, where `rest` begins, and the prefix found there tells whether it is accepted.
pub record FieldBegins (int : IntType) (separator index place : ℕ) (rest : List ℕ) : Type 0 where
  pub some : 0 < length rest
  pub law : FieldIsPrefix (parse_answer int true true) (parse_prefix_answer int true true) separator rest

module _ {int : IntType} {separator index place : ℕ} {rest : List ℕ} (begins : FieldBegins int separator index place rest) where
  value_then : (v : ℤ) (count : ℕ) → prefix int rest ≡ Ok (v, count) → count ≡ field_end separator rest
      → items_left int separator index place rest ≡ Ok v ∷ items_left int separator (index + 1) (place + count + 1) (drop (count + 1) rest)
  unfolding items_left
  value_then v count h at =
      let others = fields_of separator (after_first (ends separator) rest) in
      let len : length (before_first (ends separator) rest) ≡ field_end separator rest =
      length-prefix_len (λ byte. not (ends separator byte)) rest in
      let accepted = begins.law.to_field v (rw at at h) in
      rw at (ap (items_from (whole int) (prefix int) index place rest) (fields_of_first separator rest begins.some)
      ∙ (items_from-ok (whole int) (prefix int) index place rest (before_first (ends separator) rest) others v accepted
      ∙ ap (λ n. Ok v ∷ items_from (whole int) (prefix int) (index + 1) (place + n + 1) (drop (n + 1) rest) others) len))

  flaw_alone : ((v : ℤ) → prefix int rest ≡ Ok (v, field_end separator rest) → ⊥)
      → items_left int separator index place rest ≡ Err (flaw_at index place (prefix int rest)) ∷ items_left int separator index place []
  unfolding items_left
  flaw_alone none =
      ap (items_from (whole int) (prefix int) index place rest) (fields_of_first separator rest begins.some)
      ∙ items_from-err (whole int) (prefix int) index place rest
      (before_first (ends separator) rest) (fields_of separator (after_first (ends separator) rest))
      (λ v h. none v (begins.law.to_prefix v h))

  count_is_end : (v : ℤ) (count : ℕ) (following : List ℕ) → prefix int rest ≡ Ok (v, count)
      → drop count rest ≡ separator ∷ following → count ≡ field_end separator rest
  count_is_end v count following h cut =
      let first = drop_first count rest separator following cut in
      let within = begins.law.within v count h in
      grind (arith, nat_tests, first.1, fails_before_first (ends separator) rest count 0)

  pub items_left-ended : (v : ℤ) (count : ℕ) (following : List ℕ)
      → prefix int rest ≡ Ok (v, count) → drop count rest ≡ separator ∷ following
      → items_left int separator index place rest ≡ Ok v ∷ items_left int separator (index + 1) (place + count + 1) following
  items_left-ended v count following h cut =
      let first = drop_first count rest separator following cut in
      value_then v count h (count_is_end v count following h cut)
      ∙ ap (λ t. Ok v ∷ items_left int separator (index + 1) (place + count + 1) t) first.2

  pub items_left-last : (v : ℤ) (count : ℕ) → prefix int rest ≡ Ok (v, count) → length (drop count rest) ≡ 0
      → items_left int separator index place rest ≡ Ok v ∷ items_left int separator index place []
  items_left-last v count h all =
      let within = begins.law.within v count h in
      let end = prefix_len-le-length (λ byte. not (ends separator byte)) rest in
      let none : length (drop (count + 1) rest) ≡ 0 = omega (arith, length-drop count rest, length-drop (count + 1) rest) in
      value_then v count h (omega (arith, length-drop count rest))
      ∙ ap (λ items. Ok v ∷ items) (items_left-empty int separator (index + 1) (place + count + 1) (drop (count + 1) rest) none
      ∙ sym (items_left-nil int separator index place))

  -- What is left after a number that a separator or the end of the input follows.
  pub rest-ended : (v : ℤ) (count : ℕ) (following : List ℕ) → prefix int rest ≡ Ok (v, count)
      → drop count rest ≡ separator ∷ following → following ≡ after_first (ends separator) rest
  rest-ended v count following h cut =
      let first = drop_first count rest separator following cut in
      sym first.2 ∙ ap (λ n. drop (n + 1) rest) (count_is_end v count following h cut)

  pub rest-last : (v : ℤ) (count : ℕ) → prefix int rest ≡ Ok (v, count) → length (drop count rest) ≡ 0
      → [] ≡ after_first (ends separator) rest
  rest-last v count h all =
      let within = begins.law.within v count h in
      let end = prefix_len-le-length (λ byte. not (ends separator byte)) rest in
      sym (nil_from_length (after_first (ends separator) rest)
      (omega (arith, length-drop count rest, length-drop (field_end separator rest + 1) rest)))

  pub items_left-trailing : (v : ℤ) (count byte : ℕ) (following : List ℕ)
      → prefix int rest ≡ Ok (v, count) → drop count rest ≡ byte ∷ following
      → byte ≢ separator
      → items_left int separator index place rest ≡ Err (trailing index (place + count)) ∷ items_left int separator index place []
  items_left-trailing v count byte following h cut other =
      let first = drop_first count rest byte following cut in
      let apart : (w : ℤ) → prefix int rest ≡ Ok (w, field_end separator rest) → ⊥ = λ w k.
      let at : count ≡ field_end separator rest = same_count (prefix int rest) v w count (field_end separator rest) h k in
      let found : field_end separator rest < length rest = omega (arith, first.0) in
      other (sym first.1 ∙ (ap (λ n. get_or rest n 0) at ∙ eqb-true _ _ (passes_at_first (ends separator) rest 0 found))) in
      flaw_alone apart ∙ ap (λ r. Err (flaw_at index place r) ∷ items_left int separator index place []) h

  pub items_left-refused : (reason : Refusal) → prefix int rest ≡ Err reason
      → items_left int separator index place rest ≡ Err (field index place reason) ∷ items_left int separator index place []
  items_left-refused reason h =
      flaw_alone (λ v ok. absurd (cc (h, ok))) ∙ ap (λ r. Err (flaw_at index place r) ∷ items_left int separator index place []) h

-- Giving the first item leaves one less.
pub one_item_less : {S A B : Type 0} (items : S → List B) (can : S → Type 0)
    → ((left : S) → can left) → {before after : S} {item : B} (given : A)
    → items before ≡ item ∷ items after → MakesProgress can (item_count items) before (Some given) after
one_item_less items can always {before} {after} given first = record {
  on = λ _. (always after, tt, subst (λ left. length (items after) < length left) (sym first) (omega arith));
  keeps = always after;
  rests = λ _. tt;
}
