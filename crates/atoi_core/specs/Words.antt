-- The bytes of a word, and the numbers that they spell.
use Rattle.std.specs.Prelude.{ℕ, ◌+◌, ◌*◌, ◌%◌, ◌^◌, List, [], ◌∷◌, length}
use Rattle.std.specs.Simd.Lanes.{digits_l, number_l}

-- The lowest `count` bytes of a word, the lowest first.
unfoldable pub low_bytes : ℕ → ℕ → List ℕ
low_bytes count word = digits_l 256 count word

-- The word of these bytes, the lowest first.
unfoldable pub word_of : List ℕ → ℕ
word_of bytes = number_l 256 bytes

-- The number that the lower halves of the bytes spell.
abbrev pub low_value : List ℕ → ℕ
low_value [] = 0
low_value (byte ∷ bytes) = (byte % 16) * 10 ^ length bytes + low_value bytes
