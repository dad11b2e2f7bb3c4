-- A number and a byte that is no digit, as a prefix parse finds them.
use Rattle.std.proofs.Common.{◌≡◌, ℕ, IsFalse, List, ◌∷◌, ◌++◌, take, drop, ℤ, refl, sym, ap, ◌∙◌, le-leb}
use Rattle.std.proofs.lemmas.Bool.{both_ways}
use Rattle.std.proofs.lemmas.List.{append_cancel_right, take-append-drop}
use Rattle.atoi_core.specs.Digit.{decimal_table, is_digit}
use Rattle.atoi_core.specs.IntType.{IntType}
use Rattle.atoi_core.specs.Laws.{SignForm, Writes, NumberThenByte}
use Rattle.atoi_core.specs.Text.{BeginsWithDigit, PrefixWrites}

pub ends_before : (byte : ℕ) (rest : List ℕ) → IsFalse (is_digit decimal_table byte) → ¬ BeginsWithDigit (byte ∷ rest)
ends_before byte rest not begins =
    both_ways (is_digit decimal_table byte) not (rw (le-leb 48 byte begins.0, le-leb byte 57 begins.1) refl)

module _ {int : IntType} (law : NumberThenByte int) (form : SignForm) (byte : ℕ) (not : IsFalse (is_digit decimal_table byte))
    {text : List ℕ} {number : ℤ} (bytes rest : List ℕ) (written : Writes int form bytes number) (parts : text ≡ bytes ++ byte ∷ rest) where
  -- A prefix writes the number.
  pub has_prefix : (count : ℕ) × PrefixWrites (Writes int form) text number count
  has_prefix =
      let found = (law.exact form text number byte rest not).0 (record { bytes = bytes; parts = parts; written = written }) in
      (found.0, found.1.0)

  -- A prefix that writes a number is that prefix.
  pub only_prefix : {other : ℤ} {count : ℕ} → PrefixWrites (Writes int form) text other count
      → (number ≡ other) × ((take count text ≡ bytes) × (drop count text ≡ byte ∷ rest))
  only_prefix {other} {count} found =
      let cut = law.cut form text number other byte rest count not (record { bytes = bytes; parts = parts; written = written }) found in
      let front = ap (λ tail. take count text ++ tail) (sym cut.1) ∙ take-append-drop count text ∙ parts in
      (cut.0, (append_cancel_right (take count text) bytes (byte ∷ rest) front, cut.1))
