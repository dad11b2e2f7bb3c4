-- The fields of an input.
use Rattle.std.specs.Prelude.{ℕ, Bool, not, ◌||◌, ◌==◌, List, [], ◌∷◌, length, if◌then◌else◌}
use Rattle.std.specs.List.{slice_split}
use Rattle.atoi_core.specs.Digit.{decimal_table, is_digit}
use Rattle.atoi_core.specs.Sign.{plus_sign, minus_sign}

-- Any byte but a digit or a sign may separate fields.
abbrev pub is_separator : ℕ → Bool
is_separator byte = not (is_digit decimal_table byte || (byte == plus_sign || byte == minus_sign))

-- The pieces without the last one, if that is empty.
abbrev pub without_empty_last : List (List ℕ) → List (List ℕ)
without_empty_last [] = []
without_empty_last (piece ∷ []) = if length piece == 0 then [] else piece ∷ []
without_empty_last (piece ∷ next ∷ pieces) = piece ∷ without_empty_last (next ∷ pieces)

-- The pieces between separators; an empty last piece is no field.
abbrev pub fields_of : (separator : ℕ) → List ℕ → List (List ℕ)
fields_of separator input = without_empty_last (slice_split (λ byte. byte == separator) input)
