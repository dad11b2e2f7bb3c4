-- The first field of an input, and how many fields there are.
use Rattle.std.proofs.Common.{◌≡◌, ◌≢◌, inl, inr, ℕ, ◌+◌, ◌<◌, ◌≤◌, ◌==◌, List, [], ◌∷◌, length, Bool, true, false, if◌then◌else◌, refl, ap, ◌∙◌, arith, ne_eqb}
use Rattle.std.specs.List.{slice_split, onto_first, position_or_len, before_first, after_first}
use Rattle.std.proofs.lemmas.List.{take_all, drop_all}
use Rattle.std.proofs.lemmas.List.Sums.{fails_before_first}
use Rattle.std.proofs.lemmas.List.Splits.{slice_split_first, slice_split_none}
use Rattle.std.proofs.lemmas.Bool.Decides.{leb_tells, nat_tests}
use Rattle.atoi_column.specs.Fields.{without_empty_last, fields_of}

-- A piece before others is kept, even if it is empty.
onto_first-last : (piece : List ℕ) (x : ℕ) (pieces : List (List ℕ))
    → without_empty_last (piece ∷ onto_first x pieces) ≡ piece ∷ without_empty_last (onto_first x pieces)
onto_first-last piece x [] = refl
onto_first-last piece x (next ∷ pieces) = refl

split-last : (piece : List ℕ) (p : ℕ → Bool) (xs : List ℕ)
    → without_empty_last (piece ∷ slice_split p xs) ≡ piece ∷ without_empty_last (slice_split p xs)
split-last piece p [] = refl
split-last piece p (x ∷ xs) =
    elim (p x) as (λ b. without_empty_last (piece ∷ (if b then [] ∷ slice_split p xs else onto_first x (slice_split p xs)))
    ≡ piece ∷ without_empty_last (if b then [] ∷ slice_split p xs else onto_first x (slice_split p xs))) [
      | true ↦ refl
      | false ↦ onto_first-last piece x (slice_split p xs)
    ]

module _ (p : ℕ → Bool) (xs : List ℕ) where
  pieces_ended : position_or_len p xs < length xs
      → without_empty_last (slice_split p xs) ≡ before_first p xs ∷ without_empty_last (slice_split p (after_first p xs))
  pieces_ended found =
      ap without_empty_last (slice_split_first p xs 0 found) ∙ split-last (before_first p xs) p (after_first p xs)

  pieces_last : 0 < length xs → length xs ≤ position_or_len p xs
      → without_empty_last (slice_split p xs) ≡ before_first p xs ∷ without_empty_last (slice_split p (after_first p xs))
  pieces_last some absent =
      let one : slice_split p xs ≡ xs ∷ [] = slice_split_none p xs (λ k d within. fails_before_first p xs k d (omega arith)) in
      let none : length xs ≢ 0 = omega arith in
      rw (one, ne_eqb _ _ none, take_all (position_or_len p xs) xs absent, drop_all (position_or_len p xs + 1) xs (omega arith)) refl

pub fields_of_first : (separator : ℕ) (rest : List ℕ) → 0 < length rest
    → fields_of separator rest
    ≡ before_first (λ byte. byte == separator) rest ∷ fields_of separator (after_first (λ byte. byte == separator) rest)
fields_of_first separator rest some =
    let p : ℕ → Bool = λ byte. byte == separator in
    elim (leb_tells (length rest) (position_or_len p rest)) [
      | inl absent ↦ pieces_last p rest some absent.1
      | inr found ↦ pieces_ended p rest found.1
    ]

-- One more byte makes at most one more piece.
onto_first-length : (x : ℕ) (pieces : List (List ℕ))
    → length (without_empty_last (onto_first x pieces)) ≤ length (without_empty_last pieces) + 1
onto_first-length x [] = omega arith
onto_first-length x (piece ∷ []) =
    let some : length (x ∷ piece) ≢ 0 = omega arith in
    rw (ne_eqb (length (x ∷ piece)) 0 some) (omega arith)
onto_first-length x (piece ∷ next ∷ pieces) = omega arith

pieces-fit : (p : ℕ → Bool) (xs : List ℕ) → length (without_empty_last (slice_split p xs)) ≤ length xs
pieces-fit p [] = omega arith
pieces-fit p (x ∷ xs) = grind (arith, pieces-fit p xs, split-last [] p xs, onto_first-length x (slice_split p xs))

pub length-fields_of : (separator : ℕ) (rest : List ℕ) → length (fields_of separator rest) ≤ length rest
length-fields_of separator rest = pieces-fit (λ byte. byte == separator) rest
