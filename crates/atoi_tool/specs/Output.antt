-- The output of the tool for an input.
use Rattle.std.specs.Prelude.{Bool, ℕ, List, [], ◌∷◌, ◌++◌}
use Rattle.std.specs.List.{flat_map, list_all}
use Rattle.atoi_column.specs.Fields.{fields_of}
use Rattle.atoi_tool.specs.Answer.{is_good_line, line_answer}

-- The byte that ends a line.
abbrev pub newline : ℕ
newline = 10

-- The lines are the fields between newlines.
abbrev pub lines_of : List ℕ → List (List ℕ)
lines_of input = fields_of newline input

-- The answer to a line, with a newline after it.
abbrev pub line_output : List ℕ → List ℕ
line_output line = line_answer line ++ newline ∷ []

-- The answers to all lines, in order.
abbrev pub output_of : List ℕ → List ℕ
output_of input = flat_map line_output (lines_of input)

-- Every line is good.
abbrev pub is_good_input : List ℕ → Bool
is_good_input input = list_all is_good_line (lines_of input)
