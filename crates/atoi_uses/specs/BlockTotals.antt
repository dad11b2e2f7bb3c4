-- The sum of the numbers of a column, or its first error.
use Rattle.std.specs.Prelude.{ℤ, pos, ◌+ℤ◌, Result, Ok, Err, List, [], ◌∷◌}
use Rattle.atoi_column.specs.FieldItems.{BadField}

-- `before` is the sum of the numbers that precede these items.
abbrev pub total_after : (before : ℤ) → List (Result ℤ BadField) → Result ℤ BadField
total_after before [] = Ok before
total_after before (Ok number ∷ items) = total_after (before +ℤ number) items
total_after before (Err bad ∷ items) = Err bad

abbrev pub total_of : List (Result ℤ BadField) → Result ℤ BadField
total_of items = total_after (pos 0) items
