use Rattle.std.proofs.Common.{◌≡◌, ◌++◌}
use Rattle.std.specs.List.{flat_map}
use Rattle.atoi_column.specs.Items.{column_items}
use Rattle.atoi_tool.specs.Answer.{item_text}
use Rattle.atoi_tool.specs.Failures.{AppendsUpTo}
use Rattle.atoi_tool.proofs.columns.put_items.Given as goal

abbrev pub invariant-loop-item : goal.invariant-loop-item
invariant-loop-item g l = record {
  put : AppendsUpTo (g.S.Sink.contents l.fn.output) (g.S.Sink.contents l.output)
      (l.fn.block ++ flat_map item_text (column_items g.T.Number.int_type l.fn.column))
      (l.block ++ flat_map item_text (column_items g.T.Number.int_type l.item-iterator));
  failures : g.S.Sink.failures l.output ≡ g.S.Sink.failures l.fn.output;
}
