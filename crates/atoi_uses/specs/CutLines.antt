-- Lines with a number, of which a buffer may have only the start.
use Rattle.std.specs.Prelude.{ℕ, ℤ, true, List, length, ◌⊎◌}
use Rattle.atoi_formats.specs.Ascii.{HasNoDigit}
use Rattle.atoi_simd.specs.IntType.{i64_type}
use Rattle.atoi_simd.specs.Text.{TextWrites, PrefixWrites}

-- The buffer ends after the sign, or after the digits of a number.
abbrev pub IsCut : List ℕ → Type 0
IsCut buffer =
    HasNoDigit i64_type buffer (length buffer)
    ⊎ ((number : ℤ) × PrefixWrites (TextWrites i64_type true) buffer number (length buffer))
