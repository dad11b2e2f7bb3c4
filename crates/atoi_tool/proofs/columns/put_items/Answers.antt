use Rattle.std.proofs.Common.{◌≡◌, ◌++◌, ap, arith, rules}
use Rattle.std.specs.List.{flat_map}
use Rattle.std.proofs.lemmas.Grind.{common_steps}
use Rattle.atoi_column.specs.Items.{column_items, item_of}
use Rattle.atoi_tool.specs.Answer.{item_text}
use Rattle.atoi_tool.proofs.lemmas.Appended.{AppendsUpTo-more, AppendsUpTo-next, AppendsPrefix-next, AppendsPrefix-more}
use Rattle.atoi_tool.proofs.columns.put_items.Goals as goal

pub loop-item-preserved : goal.loop-item-preserved
loop-item-preserved g c =
    let part = item_text (item_of g.T.Number.number c.in-Some.item) in
    let rest = flat_map item_text (column_items g.T.Number.int_type c.next.new.self) in
    let first : flat_map item_text (column_items g.T.Number.int_type c.loop-item.item-iterator) ≡ part ++ rest =
    ap (flat_map item_text) c.in-Some.ensures.steps.0 in
    record {
      put = rw c.push_item.ensures
          (AppendsUpTo-next _ (g.S.Sink.contents c.loop-item.output) _ _ c.loop-item.block part rest _
          (rw first at c.loop-item.invariant.put)
          (AppendsUpTo-more _ _ c.loop-item.block _ part c.in_ok-make_room.ensures.output));
      failures = grind (arith, common_steps);
    }

pub returns-in_err-make_room-clause-output : goal.returns-in_err-make_room-clause-output
returns-in_err-make_room-clause-output g c =
    let part = item_text (item_of g.T.Number.number c.in-Some.item) in
    let rest = flat_map item_text (column_items g.T.Number.int_type c.next.new.self) in
    let first : flat_map item_text (column_items g.T.Number.int_type c.loop-item.item-iterator) ≡ part ++ rest =
    ap (flat_map item_text) c.in-Some.ensures.steps.0 in
    let refused = AppendsPrefix-next _ (g.S.Sink.contents c.loop-item.output) _ _ c.loop-item.block part rest
    (rw first at c.loop-item.invariant.put)
    (AppendsPrefix-more _ _ c.loop-item.block part c.in_err-make_room.ensures.output) in
    search rules
