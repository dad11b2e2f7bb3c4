-- The items read so far are `numbers`, and `total` is their sum.
use Rattle.std.proofs.Common.{◌≡◌, ◌*◌, ◌^◌, List, Result, length, ℤ, pos, neg_ℤ, ◌≤ℤ◌}
use Rattle.atoi_core.specs.IntType.{i64_type}
use Rattle.atoi_column.specs.Items.{Flaw, column_items, items_of}
use Rattle.atoi_column.specs.Laws.{HaveRead}
use Rattle.atoi_uses.specs.SignedTotals.{sum_of}
use Rattle.atoi_uses.proofs.signed_totals.signed_total.Given as goal

pub record HasSum (items left : List (Result ℤ Flaw)) (total : ℤ) : Type 0 where
  pub numbers : List ℤ
  pub read : HaveRead items numbers left
  pub sum : total ≡ sum_of numbers
  pub above : neg_ℤ (pos (2 ^ 63 * length numbers)) ≤ℤ total
  pub below : total ≤ℤ pos (2 ^ 63 * length numbers)

abbrev pub invariant-loop-item : goal.invariant-loop-item
invariant-loop-item l = HasSum (items_of i64_type l.fn.separator l.fn.input) (column_items i64_type l.item-iterator) l.total
