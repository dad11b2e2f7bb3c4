-- The first bad line of a text.
use Rattle.std.specs.Prelude.{ℕ, ℤ, Option, None, Some, Result, Ok, Err, List, [], ◌∷◌}
use Rattle.atoi_column.specs.FieldItems.{BadField}

abbrev pub first_bad_index : List (Result ℤ BadField) → Option ℕ
first_bad_index [] = None
first_bad_index (Ok number ∷ items) = first_bad_index items
first_bad_index (Err bad ∷ items) = Some bad.index
