-- The total of a column of signed numbers.
use Rattle.std.specs.Prelude.{◌≡◌, ℕ, true, List, ◌++◌, ℤ, pos, ◌+ℤ◌, fold, codes, FitsSigned}
use Rattle.std.specs.Int.{w64}
use Rattle.std.specs.List.{AllZip}
use Rattle.std.specs.Fmt.{signed_decimal}
use Rattle.atoi_core.specs.IntType.{i64_type}
use Rattle.atoi_core.specs.Text.{TextWrites}
use Rattle.atoi_column.specs.ErrorText.{flaw_text}
use Rattle.atoi_column.specs.Fields.{fields_of}
use Rattle.atoi_column.specs.Items.{flaw_of, index_of, place_of}
use Rattle.atoi_column.specs.Laws.{IsFirstBad}
use Rattle.atoi_uses.specs.declared.signed_totals.SignedTotalError.{SignedTotalError}
use Rattle.atoi_uses.specs.declared.signed_totals.SignedTotalError.TheVariants.{BadField, OutOfRange}

abbrev pub sum_of : List ℤ → ℤ
sum_of numbers = fold ◌+ℤ◌ (pos 0) numbers

-- Each field is a text of an `i64`, and `total` their sum.
abbrev pub HasTotal : (separator : ℕ) → List ℕ → ℤ → Type 0
HasTotal separator input total =
    (numbers : List ℤ)
    × (AllZip (TextWrites i64_type true) (fields_of separator input) numbers × (total ≡ sum_of numbers))

-- The first field that is no text, or a total out of range.
abbrev pub HasNoTotal : (separator : ℕ) → List ℕ → SignedTotalError → Type 0
HasNoTotal separator input (BadField error) =
    IsFirstBad i64_type separator input (index_of (flaw_of error)) (place_of (flaw_of error))
HasNoTotal separator input (OutOfRange total) = HasTotal separator input total × ¬ FitsSigned w64 total

abbrev pub error_text : SignedTotalError → List ℕ
error_text (BadField error) = flaw_text (flaw_of error)
error_text (OutOfRange total) = codes "the total " ++ signed_decimal total ++ codes " is out of range"
