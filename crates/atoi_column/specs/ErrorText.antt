-- What the errors of a column and of a field print.
use Rattle.std.specs.Prelude.{ℕ, ◌+◌, ◌-◌, Option, None, Some, List, [], ◌++◌, length, codes, decimal}
use Rattle.std.specs.Option.{option_map_or}
use Rattle.atoi_core.specs.Refusal.{Refusal, empty, size, overflow, invalid64, invalid128}
use Rattle.atoi_column.specs.Items.{Flaw, field, trailing}
use Rattle.atoi_column.specs.FieldItems.{BadField}

-- What is wrong with a field.
abbrev pub fault_text : Refusal → List ℕ
fault_text empty = codes "has no digit at its start"
fault_text (size length input) = codes "is out of range"
fault_text (overflow input) = codes "is out of range"
fault_text (invalid64 number index body) = codes "has an unexpected byte"
fault_text (invalid128 number index body) = codes "has an unexpected byte"

-- The offset in the input of the byte that ends the digits of the field `text`. In the reason, it is an offset in
-- the body, which is `text` after its sign.
abbrev pub unexpected_place : (place : ℕ) (text : List ℕ) → Refusal → Option ℕ
unexpected_place place text (invalid64 number index body) = Some (place + (length text - length body) + index)
unexpected_place place text (invalid128 number index body) = Some (place + (length text - length body) + index)
unexpected_place place text reason = None

abbrev pub flaw_text : Flaw → List ℕ
flaw_text (field index place reason) =
    codes "field " ++ decimal index ++ codes " at byte " ++ decimal place ++ codes " " ++ fault_text reason
flaw_text (trailing index place) =
    codes "field " ++ decimal index ++ codes " has an unexpected byte at byte " ++ decimal place

abbrev pub bad_field_text : BadField → List ℕ
bad_field_text bad =
    flaw_text (field bad.index bad.place bad.reason)
    ++ option_map_or (λ byte. codes " at byte " ++ decimal byte) (unexpected_place bad.place bad.text bad.reason) []
