-- A row: four words, a space after each, and a text.
use Rattle.std.specs.Prelude.{◌≡◌, Option, Some, None, ℕ, ◌+◌, ◌-◌, ◌*◌, ◌==◌, ◌&&◌, nat_le, true, List, [], ◌∷◌, take, drop, position, codes, option_and_then, if◌then◌else◌}
use Rattle.std.specs.Option.{option_map}
use Rattle.std.specs.Str.{bytes_eq}
use Rattle.atoi_column.specs.Fields.{is_separator}
use Rattle.atoi_tool.specs.declared.request.Request.{Request}
use Rattle.atoi_tool.specs.declared.request.Query.{Query}
use Rattle.atoi_tool.specs.declared.request.Query.TheVariants.{Number, Column}
use Rattle.atoi_tool.specs.Request.{engine_of, call_of, integer_of, flags_of, is_known}

abbrev pub space : ℕ
space = 32

-- What precedes the first separator, and what follows it.
abbrev pub cut : (separator : ℕ) → List ℕ → Option (List ℕ × List ℕ)
cut separator bytes =
    option_map (λ place. (take place bytes, drop (place + 1) bytes)) (position (λ byte. byte == separator) bytes)

-- What four words ask for, if each names something.
abbrev pub named_request : (engine_word call_word integer_word flags_word : List ℕ) → Option Request
named_request engine_word call_word integer_word flags_word =
    option_and_then (λ engine. option_and_then (λ call. option_and_then (λ integer. option_map
    (λ flags. record { engine = engine; sign = call.0; extent = call.1; integer = integer; flags = flags })
    (flags_of flags_word)) (integer_of integer_word)) (call_of call_word)) (engine_of engine_word)

-- What four words ask for, if such a row has an answer.
abbrev pub request_of : (engine_word call_word integer_word flags_word : List ℕ) → Option Request
request_of engine_word call_word integer_word flags_word =
    option_and_then (λ request. if is_known request then Some request else None)
    (named_request engine_word call_word integer_word flags_word)

-- The value of a hexadecimal digit, whose letters are capitals.
abbrev pub value_of_hex_digit : ℕ → Option ℕ
value_of_hex_digit byte =
    if nat_le 48 byte && nat_le byte 57 then Some (byte - 48)
    else (if nat_le 65 byte && nat_le byte 70 then Some (byte - 65 + 10) else None)

-- The byte that two hexadecimal digits spell.
abbrev pub byte_of : List ℕ → Option ℕ
byte_of (high ∷ low ∷ []) =
    option_and_then (λ sixteens. option_map (λ ones. 16 * sixteens + ones) (value_of_hex_digit low)) (value_of_hex_digit high)
byte_of word = None

-- The column of three words; only `w` reads columns.
abbrev pub column_of : (engine_word integer_word separator_word : List ℕ) → Option Query
column_of engine_word integer_word separator_word =
    if bytes_eq engine_word (codes "w") then option_and_then (λ integer. option_and_then
    (λ separator. if is_separator separator then Some (Column integer separator) else None)
    (byte_of separator_word)) (integer_of integer_word)
    else None

-- What four words ask for; the last is a separator or flags.
abbrev pub query_of : (engine_word call_word integer_word last_word : List ℕ) → Option Query
query_of engine_word call_word integer_word last_word =
    if bytes_eq call_word (codes "column") then column_of engine_word integer_word last_word
    else option_map (λ request. Number request) (request_of engine_word call_word integer_word last_word)

-- A row with this query has an answer.
abbrev pub HasAnswer : Query → Type 0
HasAnswer (Number request) = is_known request ≡ true
HasAnswer (Column integer separator) = is_separator separator ≡ true

-- What a line asks for, and the text after four spaces.
abbrev pub row_of : List ℕ → Option (Query × List ℕ)
row_of line =
    option_and_then (λ engine. option_and_then (λ call. option_and_then (λ integer. option_and_then
    (λ last. option_map (λ query. (query, last.1)) (query_of engine.0 call.0 integer.0 last.0))
    (cut space integer.1)) (cut space call.1)) (cut space engine.1)) (cut space line)
