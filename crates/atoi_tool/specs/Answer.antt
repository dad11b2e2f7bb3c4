-- The answer to a line, without its newline.
use Rattle.std.specs.Prelude.{Result, Ok, Err, Bool, true, false, ℕ, ℤ, List, ◌++◌, codes, decimal, is_some}
use Rattle.std.specs.List.{flat_map}
use Rattle.std.specs.Option.{option_map_or}
use Rattle.std.specs.Fmt.{signed_decimal}
use Rattle.atoi_core.specs.Digit.{decimal_table}
use Rattle.atoi_core.specs.Refusal.{Refusal}
use Rattle.atoi_core.specs.ErrorText.{error_text}
use Rattle.atoi_core.specs.IntType.{IntType}
use Rattle.atoi_core.specs.Answer.{parse_answer, parse_prefix_answer, whole_answer, prefix_answer}
use Rattle.atoi_tool.specs.declared.request.Sign.{Sign}
use Rattle.atoi_tool.specs.declared.request.Sign.TheVariants.{InText, Positive, Negative}
use Rattle.atoi_tool.specs.declared.request.Extent.{Extent}
use Rattle.atoi_tool.specs.declared.request.Extent.TheVariants.{Whole, Prefix}
use Rattle.atoi_tool.specs.declared.request.Flags.{Flags}
use Rattle.atoi_column.specs.Items.{Flaw, field, trailing, items_of}
use Rattle.atoi_tool.specs.declared.request.Request.{Request}
use Rattle.atoi_tool.specs.declared.request.Query.{Query}
use Rattle.atoi_tool.specs.declared.request.Query.TheVariants.{Number, Column}
use Rattle.atoi_tool.specs.Request.{int_type_of}
use Rattle.atoi_tool.specs.Row.{row_of}

-- The answer if a call returns an error.
abbrev pub refusal_text : Refusal → List ℕ
refusal_text reason = codes "err " ++ error_text reason

-- The answer to a call for a whole slice.
abbrev pub whole_text : Result ℤ Refusal → List ℕ
whole_text (Ok value) = codes "ok " ++ signed_decimal value
whole_text (Err reason) = refusal_text reason

-- A prefix's answer: the value and the number of its bytes.
abbrev pub prefix_text : Result (ℤ × ℕ) Refusal → List ℕ
prefix_text (Ok found) = codes "ok " ++ signed_decimal found.0 ++ codes " " ++ decimal found.1
prefix_text (Err reason) = refusal_text reason

-- The answer to a call for the slice `text`.
abbrev pub call_text : Sign → Extent → IntType → Flags → List ℕ → List ℕ
call_text InText Whole int flags text = whole_text (parse_answer int flags.zeroes flags.plus text)
call_text Positive Whole int flags text = whole_text (whole_answer decimal_table int false flags.zeroes text)
call_text Negative Whole int flags text = whole_text (whole_answer decimal_table int true flags.zeroes text)
call_text InText Prefix int flags text = prefix_text (parse_prefix_answer int flags.zeroes flags.plus text)
call_text Positive Prefix int flags text = prefix_text (prefix_answer decimal_table int false flags.zeroes text)
call_text Negative Prefix int flags text = prefix_text (prefix_answer decimal_table int true flags.zeroes text)

-- The answer to a number's row, on either engine.
abbrev pub row_text : Request → List ℕ → List ℕ
row_text request text = call_text request.sign request.extent (int_type_of request.integer) request.flags text

-- Why a field has no value, with the offset of the field or of the byte after its number.
abbrev pub refused_field_text : Flaw → List ℕ
refused_field_text (field index place reason) =
    codes "field " ++ decimal index ++ codes " " ++ decimal place ++ codes ": " ++ error_text reason
refused_field_text (trailing index place) = codes "trailing " ++ decimal index ++ codes " " ++ decimal place

-- An item of a column, with a space before it.
abbrev pub item_text : Result ℤ Flaw → List ℕ
item_text (Ok value) = codes " " ++ signed_decimal value
item_text (Err flaw) = codes " err " ++ refused_field_text flaw

abbrev pub column_text : IntType → (separator : ℕ) → List ℕ → List ℕ
column_text int separator text = codes "col" ++ flat_map item_text (items_of int separator text)

abbrev pub query_text : Query → List ℕ → List ℕ
query_text (Number request) text = row_text request text
query_text (Column integer separator) text = column_text (int_type_of integer) separator text

-- The line is a row that the tool accepts.
abbrev pub is_good_line : List ℕ → Bool
is_good_line line = is_some (row_of line)

abbrev pub line_answer : List ℕ → List ℕ
line_answer line = option_map_or (λ row. query_text row.0 row.1) (row_of line) (codes "bad row")
