-- What an error says of the text that was parsed.
use Rattle.std.specs.Prelude.{ℕ, ◌+◌, ◌-◌, ◌^◌, nat_le, nat_lt, Option, Some, None, if◌then◌else◌, ◌&&◌, ◌==◌, List, [], ◌∷◌, length}
use Rattle.std.specs.declared.num.IntErrorKind.{IntErrorKind}
use Rattle.std.specs.declared.num.IntErrorKind.TheVariants.{InvalidDigit, Empty, PosOverflow, NegOverflow}
use Rattle.atoi_core.specs.Refusal.{Refusal, empty, size, overflow, invalid64, invalid128}
use Rattle.atoi_core.specs.Sign.{minus_sign}

-- The offset in `text` of the byte at `index` of `input`, which is a suffix of `text`: if it is no longer, and
-- the offset is a `usize`.
abbrev pub offset_of : (index : ℕ) (input text : List ℕ) → Option ℕ
offset_of index input text =
    let offset = length text - length input + index in
    if nat_le (length input) (length text) && nat_lt offset (2 ^ 64) then Some offset else None

-- Where the slice of a reason begins in `text`, or where its digits end.
abbrev pub offset_in : Refusal → (text : List ℕ) → Option ℕ
offset_in empty text = None
offset_in (size count input) text = offset_of 0 input text
offset_in (overflow input) text = offset_of 0 input text
offset_in (invalid64 number index input) text = offset_of index input text
offset_in (invalid128 number index input) text = offset_of index input text

-- The kind of a number that is out of range: it depends on the sign.
abbrev pub overflow_kind : (text : List ℕ) → IntErrorKind
overflow_kind [] = PosOverflow
overflow_kind (byte ∷ text) = if byte == minus_sign then NegOverflow else PosOverflow

-- The kind of a reason, in the words of std.
abbrev pub kind_of : Refusal → (text : List ℕ) → IntErrorKind
kind_of empty [] = Empty
kind_of empty (byte ∷ text) = InvalidDigit
kind_of (size count input) text = overflow_kind text
kind_of (overflow input) text = overflow_kind text
kind_of (invalid64 number index input) text = InvalidDigit
kind_of (invalid128 number index input) text = InvalidDigit
