use Rattle.std.proofs.Common.{codes, rules}
use Rattle.std.specs.List.{flat_map}
use Rattle.atoi_column.specs.Items.{items_of}
use Rattle.atoi_tool.specs.Answer.{item_text}
use Rattle.atoi_tool.proofs.lemmas.Appended.{AppendsPrefix-first, PutAppends-then}
use Rattle.atoi_tool.proofs.columns.put_column_of.Goals as goal

pub returns-in_err-append-clause-output : goal.returns-in_err-append-clause-output
returns-in_err-append-clause-output g c =
    let items = items_of g.T.Number.int_type c.args.separator c.args.text.now in
    let refused = AppendsPrefix-first _ (g.S.Sink.contents c.append.new.output)
    c.args.block.now (codes "col") (flat_map item_text items) c.in_err-append.ensures.output in
    search rules

pub returns-clause-output : goal.returns-clause-output
returns-clause-output g c =
    let items = items_of g.T.Number.int_type c.args.separator c.args.text.now in
    PutAppends-then _ (g.S.Sink.contents c.append.new.output)
    (g.S.Sink.contents c.put_items.new.output) c.args.block.now (codes "col") (flat_map item_text items)
    c.append.new.self c.put_items.new.block c.put_items.result
    c.in_ok-append.ensures.output (rw c.new.ensures.items at c.put_items.ensures.output)
