-- `take_while` yields the bytes before the first separator, so their count is the length of the field: the lemmas of
-- std say what each of the three iterators yields.
use Rattle.std.proofs.Common.{◌==◌, not, ◌∙◌, rules, tests}
use Rattle.std.proofs.lemmas.Iterator.{YieldsList-from_slice}
use Rattle.std.proofs.lemmas.Iterator.Consumers.{count_from_yields_List}
use Rattle.std.proofs.lemmas.Iterator.Search.{YieldsList-from_take_while}
use Rattle.std.proofs.lemmas.List.Folds.{length-prefix_len}
use Rattle.atoi_column.proofs.fields.field_len.Goals as goal

pub returns : goal.returns
returns c =
    let rest = c.args.rest.now in
    let in_field = λ (byte : _). not (byte == c.args.separator) in
    count_from_yields_List c.take_while.result _ c.count.ensures.ran
    (YieldsList-from_take_while _ in_field (YieldsList-from_slice rest cc)
    c.take_while.ensures.closure c.take_while.ensures.done (λ x b q k. search (rules, tests)))
    ∙ length-prefix_len in_field rest
