-- The text that an error prints.
use Rattle.std.specs.Prelude.{ℕ, List, [], ◌∷◌, ◌++◌, true, take, codes, decimal}
use Rattle.std.specs.List.{flat_map}
use Rattle.std.specs.Fmt.{digits}
use Rattle.atoi_core.specs.Refusal.{Refusal, empty, size, overflow, invalid64, invalid128}

-- A byte in hexadecimal capitals, no leading zeros.
abbrev pub hex_text : ℕ → List ℕ
hex_text byte = digits 16 true byte

-- Bytes in hexadecimal, joined by comma and space.
abbrev pub hex_list : List ℕ → List ℕ
hex_list [] = []
hex_list (byte ∷ bytes) = hex_text byte ++ flat_map (λ b. codes ", " ++ hex_text b) bytes

-- At most the first 48 bytes, in brackets.
abbrev pub input_text : List ℕ → List ℕ
input_text input = codes "[" ++ hex_list (take 48 input) ++ codes "]"

-- The start of both `invalid` texts.
abbrev pub invalid_text : (number index : ℕ) → List ℕ
invalid_text number index =
    codes "atoi_simd invalid at index: " ++ decimal index
    ++ codes " it must contain only digits, starting with: " ++ decimal number

-- `invalid64` has two spaces before `input:`.
abbrev pub error_text : Refusal → List ℕ
error_text empty = codes "atoi_simd string is empty"
error_text (size length input) =
    codes "atoi_simd wrong size: " ++ decimal length ++ codes " input: " ++ input_text input
error_text (overflow input) = codes "atoi_simd overflow, input: " ++ input_text input
error_text (invalid64 number index input) = invalid_text number index ++ codes "  input: " ++ input_text input
error_text (invalid128 number index input) = invalid_text number index ++ codes " input: " ++ input_text input
