-- The messages of errors are ASCII if the decimal numbers in them are.
use Rattle.std.proofs.Common.{◌≡◌, refl, sym, subst, ℕ, ◌<◌, Option, None, Some, List, [], ◌++◌, true, codes, decimal, IsAscii}
use Rattle.std.specs.Char.{is_ascii}
use Rattle.std.specs.List.{list_all, slice_index}
use Rattle.std.specs.Option.{option_map_or}
use Rattle.std.proofs.lemmas.Str.{IsAscii-append}
use Rattle.std.proofs.lemmas.Str.Ascii.{IsAscii-nil}
use Rattle.atoi_core.specs.Refusal.{Refusal, empty, size, overflow, invalid64, invalid128}
use Rattle.atoi_core.proofs.lemmas.ErrorTexts.{IsAscii-literal}
use Rattle.atoi_column.specs.ErrorText.{fault_text, flaw_text, bad_field_text, unexpected_place}
use Rattle.atoi_column.specs.Items.{field, trailing}
use Rattle.atoi_column.specs.FieldItems.{BadField}

IsAscii-with : (text literal : List ℕ) → list_all is_ascii literal ≡ true → IsAscii text → IsAscii (text ++ literal)
IsAscii-with text literal passes ascii = IsAscii-append text literal ascii (IsAscii-literal literal passes)

IsAscii-fault_text : (reason : Refusal) → IsAscii (fault_text reason)
IsAscii-fault_text empty = IsAscii-literal (codes "has no digit at its start") refl
IsAscii-fault_text (size length input) = IsAscii-literal (codes "is out of range") refl
IsAscii-fault_text (overflow input) = IsAscii-literal (codes "is out of range") refl
IsAscii-fault_text (invalid64 number index body) = IsAscii-literal (codes "has an unexpected byte") refl
IsAscii-fault_text (invalid128 number index body) = IsAscii-literal (codes "has an unexpected byte") refl

-- What each message begins with.
IsAscii-start : (index : ℕ) → IsAscii (decimal index) → IsAscii (codes "field " ++ decimal index)
IsAscii-start index ascii = IsAscii-append (codes "field ") (decimal index) (IsAscii-literal (codes "field ") refl) ascii

pub field_is_ascii : (index place i : ℕ) (reason : Refusal) → IsAscii (decimal index) → IsAscii (decimal place)
    → slice_index (flaw_text (field index place reason)) i < 128
field_is_ascii index place i reason first second =
    let start = codes "field " ++ decimal index in
    let to_at = IsAscii-with start (codes " at byte ") refl (IsAscii-start index first) in
    let to_place = IsAscii-append (start ++ codes " at byte ") (decimal place) to_at second in
    let to_fault = IsAscii-with (start ++ codes " at byte " ++ decimal place) (codes " ") refl to_place in
    IsAscii-append (start ++ codes " at byte " ++ decimal place ++ codes " ") (fault_text reason) to_fault
    (IsAscii-fault_text reason) i

pub trailing_is_ascii : (index place i : ℕ) → IsAscii (decimal index) → IsAscii (decimal place)
    → slice_index (flaw_text (trailing index place)) i < 128
trailing_is_ascii index place i first second =
    let start = codes "field " ++ decimal index in
    let middle = codes " has an unexpected byte at byte " in
    IsAscii-append (start ++ middle) (decimal place) (IsAscii-with start middle refl (IsAscii-start index first)) second i

-- The message of a `FieldError`, where a byte at `place` ends the digits.
abbrev with_end : BadField → (place : Option ℕ) → List ℕ
with_end bad place =
    flaw_text (field bad.index bad.place bad.reason) ++ option_map_or (λ byte. codes " at byte " ++ decimal byte) place []

pub with_end_is_ascii : (bad : BadField) (byte i : ℕ) → unexpected_place bad.place bad.text bad.reason ≡ Some byte
    → IsAscii (flaw_text (field bad.index bad.place bad.reason)) → IsAscii (decimal byte)
    → slice_index (bad_field_text bad) i < 128
with_end_is_ascii bad byte i is start number =
    let end = IsAscii-append (codes " at byte ") (decimal byte) (IsAscii-literal (codes " at byte ") refl) number in
    subst (λ place. slice_index (with_end bad place) i < 128) (sym is)
    (IsAscii-append (flaw_text (field bad.index bad.place bad.reason)) (codes " at byte " ++ decimal byte) start end i)

pub without_end_is_ascii : (bad : BadField) (i : ℕ) → unexpected_place bad.place bad.text bad.reason ≡ None
    → IsAscii (flaw_text (field bad.index bad.place bad.reason)) → slice_index (bad_field_text bad) i < 128
without_end_is_ascii bad i is start =
    subst (λ place. slice_index (with_end bad place) i < 128) (sym is)
    (IsAscii-append (flaw_text (field bad.index bad.place bad.reason)) [] start IsAscii-nil i)
