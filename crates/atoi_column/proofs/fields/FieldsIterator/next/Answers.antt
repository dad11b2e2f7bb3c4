-- `next` gives the first item left, and leaves the others.
use Rattle.std.proofs.Common.{◌≡◌, ◌<◌, [], length, Ok, refl, sym, ap, ◌∙◌, arith, rules}
use Rattle.std.proofs.lemmas.Bool.Decides.{nat_tests}
use Rattle.std.proofs.lemmas.List.{nil_from_length}
use Rattle.atoi_column.specs.FieldItems.{field_items_left}
use Rattle.atoi_column.proofs.lemmas.Items.{one_item_less}
use Rattle.atoi_column.proofs.lemmas.FieldItems.{field_items_left-empty, first_field_step}
use Rattle.atoi_column.proofs.fields.FieldsIterator.next.Goals as goal

pub returns-then-is_empty-clause-steps : goal.returns-then-is_empty-clause-steps
returns-then-is_empty-clause-steps g c =
    let none : c.self.inside.rest.now ≡ [] = nil_from_length c.self.inside.rest.now (grind (arith, nat_tests)) in
    let end : c.args.self.now.rest ≡ [] = ap (λ left. left.rest) (sym c.self.view_is) ∙ none in
    let items = field_items_left-empty g.T.Number.int_type c.args.self.now end in
    ((items, items), (end, refl))

pub returns-in-Some-clause-steps : goal.returns-in-Some-clause-steps
returns-in-Some-clause-steps g c =
    let some : 0 < length c.self.inside.rest.now = grind (arith, nat_tests) in
    let accepted = c.in-Some.ensures.some c.self.invariant.separates in
    let step = first_field_step g.T.Number.int_type {item = Ok (g.T.Number.number c.in-Some.value)} c.self.view_is some
    c.self.invariant.within (rw accepted.accepted refl) accepted.after in
    search rules

pub returns-in-Some-clause-goes : goal.returns-in-Some-clause-goes
returns-in-Some-clause-goes g c =
    one_item_less (field_items_left g.T.Number.int_type) _ (λ _. tt) _ (returns-in-Some-clause-steps g c).0

pub returns-in-None : goal.returns-in-None
returns-in-None g c =
    let some : 0 < length c.self.inside.rest.now = grind (arith, nat_tests) in
    let step = first_field_step g.T.Number.int_type c.self.view_is some c.self.invariant.within c.read_field-item.ensures.item
    c.read_field-item.ensures.following in
    record { steps = step; goes = one_item_less (field_items_left g.T.Number.int_type) _ (λ _. tt) _ step.0 }
