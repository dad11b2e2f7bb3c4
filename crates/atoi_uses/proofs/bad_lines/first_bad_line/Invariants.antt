-- The items still to come have the same first error as all, and the end of the first piece stays.
use Rattle.std.proofs.Common.{◌≡◌, ◌++◌, ℕ, ℤ, Result, List}
use Rattle.atoi_core.specs.IntType.{u32_type}
use Rattle.atoi_column.specs.FieldItems.{BadField, FieldsLeft, lines_in, field_items_left, line_items}
use Rattle.atoi_column.specs.Laws.{end_of}
use Rattle.atoi_uses.specs.BadLines.{first_bad_index}
use Rattle.atoi_uses.proofs.bad_lines.first_bad_line.Given as goal

-- The items of the second piece.
abbrev pub items_of_second : (first second : List ℕ) → List (Result ℤ BadField)
items_of_second first second = field_items_left u32_type (record (end_of u32_type (lines_in first)) { rest = second })

pub record HasReadLines (first second : List ℕ) (lines : FieldsLeft) : Type 0 where
  pub end : end_of u32_type lines ≡ end_of u32_type (lines_in first)
  pub found : first_bad_index (line_items u32_type (first ++ second))
      ≡ first_bad_index (field_items_left u32_type lines ++ items_of_second first second)

abbrev pub invariant-loop-item : goal.invariant-loop-item
invariant-loop-item l = HasReadLines l.fn.first l.fn.second l.lines

abbrev pub invariant-loop-item-2 : goal.invariant-loop-item-2
invariant-loop-item-2 l =
    first_bad_index (line_items u32_type (l.fn.first ++ l.fn.second)) ≡ first_bad_index (field_items_left u32_type l.item-iterator)
