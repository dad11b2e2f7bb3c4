-- How many fields of a column are not numbers.
use Rattle.std.specs.Prelude.{ℕ, ◌+◌, ℤ, Result, Ok, Err, List, [], ◌∷◌}
use Rattle.atoi_column.specs.FieldItems.{BadField}

abbrev pub bad_count : List (Result ℤ BadField) → ℕ
bad_count [] = 0
bad_count (Ok number ∷ items) = bad_count items
bad_count (Err bad ∷ items) = bad_count items + 1
