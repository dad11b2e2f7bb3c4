-- A byte that is left belongs to a field, and each field has one.
use Rattle.std.proofs.Common.{length, ap, arith}
use Rattle.atoi_column.proofs.lemmas.FieldItems.{length-field_items_left, some-field_items_left}
use Rattle.atoi_column.proofs.fields.FieldsIterator.size_hint.Goals as goal

pub returns-clause-lower : goal.returns-clause-lower
returns-clause-lower g c = λ _.
    let rest = ap (λ left. length left.rest) c.self.view_is in
    omega (arith, rest, c.min.ensures, some-field_items_left g.T.Number.int_type c.args.self.now)

pub returns-clause-upper : goal.returns-clause-upper
returns-clause-upper g c =
    let rest = ap (λ left. length left.rest) c.self.view_is in
    (tt, omega (arith, rest, length-field_items_left g.T.Number.int_type c.args.self.now))
