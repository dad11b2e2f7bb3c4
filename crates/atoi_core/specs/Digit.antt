-- Which bytes are digits, and their digit values.
use Rattle.std.specs.Prelude.{ℕ, ◌-◌, ◌<◌, ◌&&◌, Bool, Option, Some, None, nat_le, ◌==◌, unwrap_or, is_some, if◌then◌else◌}

-- Each byte's digit value, or `None` for no digit.
abbrev pub Table : Type 0
Table = ℕ → Option ℕ

abbrev pub is_digit : Table → ℕ → Bool
is_digit table byte = is_some (table byte)

-- 0 if the byte is no digit.
abbrev pub digit_value : Table → ℕ → ℕ
digit_value table byte = unwrap_or (table byte) 0

-- A digit whose digit value is 0.
abbrev pub is_zero : Table → ℕ → Bool
is_zero table byte = is_digit table byte && digit_value table byte == 0

abbrev pub IsBelowTen : Table → Type 0
IsBelowTen table = (byte : ℕ) → digit_value table byte < 10

-- The digits are the bytes 48 to 57, with the digit values 0 to 9.
abbrev pub decimal_table : Table
decimal_table byte = if nat_le 48 byte && nat_le byte 57 then Some (byte - 48) else None
