-- With the items still to come, `total` becomes the result. There is room to add 2^64 for each of them.
use Rattle.std.proofs.Common.{◌≡◌, ◌+◌, ◌*◌, ◌^◌, ◌≤◌, length, pos}
use Rattle.atoi_core.specs.IntType.{u32_type}
use Rattle.atoi_column.specs.FieldItems.{field_items, field_items_left}
use Rattle.atoi_uses.specs.BlockTotals.{total_after, total_of}
use Rattle.atoi_uses.proofs.block_totals.total_in_blocks.Given as goal

abbrev pub invariant-loop-numbers : goal.invariant-loop-numbers
invariant-loop-numbers l =
    let left = field_items_left u32_type l.fields in
    (total_after (pos l.total) left ≡ total_of (field_items u32_type l.fn.separator l.fn.input))
    × (l.total + 2 ^ 64 * length left ≤ 2 ^ 64 * length l.fn.input)

abbrev pub decreases-loop-numbers : goal.decreases-loop-numbers
decreases-loop-numbers l = length (field_items_left u32_type l.fields)
