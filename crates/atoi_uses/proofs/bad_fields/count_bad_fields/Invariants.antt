-- The bad fields are those counted and those left, and no more than the bytes.
use Rattle.std.proofs.Common.{◌≡◌, ◌+◌, ◌≤◌, length}
use Rattle.atoi_core.specs.IntType.{u32_type}
use Rattle.atoi_column.specs.FieldItems.{field_items, field_items_left}
use Rattle.atoi_uses.specs.BadFields.{bad_count}
use Rattle.atoi_uses.proofs.bad_fields.count_bad_fields.Given as goal

abbrev pub invariant-loop-item : goal.invariant-loop-item
invariant-loop-item l =
    let left = field_items_left u32_type l.item-iterator in
    (l.bad + bad_count left ≡ bad_count (field_items u32_type l.fn.separator l.fn.input)) × (l.bad + length left ≤ length l.fn.input)
