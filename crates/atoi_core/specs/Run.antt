-- The digits at a slice's start, and what they spell.
use Rattle.std.specs.Prelude.{ℕ, ◌+◌, ◌*◌, ◌^◌, List, [], ◌∷◌, length, take}
use Rattle.std.specs.List.{prefix_len}
use Rattle.atoi_core.specs.Digit.{Table, is_digit, is_zero, digit_value}

-- How many digits a slice starts with.
abbrev pub run_len : Table → List ℕ → ℕ
run_len table s = prefix_len (is_digit table) s

-- The *run* of a slice: its longest prefix of digits.
abbrev pub run : Table → List ℕ → List ℕ
run table s = take (run_len table s) s

-- How many zeros a slice starts with.
abbrev pub zeros : Table → List ℕ → ℕ
zeros table s = prefix_len (is_zero table) s

-- The sum of the digit values, each times `10 ^ k` if `k` digits follow.
abbrev pub value : Table → List ℕ → ℕ
value table [] = 0
value table (digit ∷ digits) = digit_value table digit * 10 ^ length digits + value table digits
