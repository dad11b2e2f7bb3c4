-- A number is the first item, and an error changes nothing.
use Rattle.std.proofs.Common.{◌≡◌, ◌<◌, [], length, Ok, refl, sym, ap, ◌∙◌, arith, rules}
use Rattle.std.proofs.lemmas.Bool.Decides.{nat_tests}
use Rattle.std.proofs.lemmas.List.{nil_from_length}
use Rattle.atoi_column.specs.FieldItems.{field_item_of}
use Rattle.atoi_column.proofs.lemmas.FieldItems.{field_items_left-empty, first_field_step}
use Rattle.atoi_column.proofs.lemmas.FoundFields.{ok_is}
use Rattle.atoi_column.proofs.lemmas.Reads.{no_number}
use Rattle.atoi_column.proofs.fields.Fields.next_number.Goals as goal

pub returns-then-is_empty-clause-none : goal.returns-then-is_empty-clause-none
returns-then-is_empty-clause-none g c =
    let none : c.self.inside.rest.now ≡ [] = nil_from_length c.self.inside.rest.now (grind (arith, nat_tests)) in
    let end : c.args.self.now.rest ≡ [] = ap (λ left. left.rest) (sym c.self.view_is) ∙ none in
    (refl, rw (field_items_left-empty g.T.Number.int_type c.args.self.now end) tt)

pub returns-in-Some-clause-some : goal.returns-in-Some-clause-some
returns-in-Some-clause-some g c =
    let some : 0 < length c.self.inside.rest.now = grind (arith, nat_tests) in
    let accepted = c.in-Some.ensures.some c.self.invariant.separates in
    let step = first_field_step g.T.Number.int_type {item = Ok (g.T.Number.number c.in-Some.value)} c.self.view_is some
    c.self.invariant.within (rw accepted.accepted refl) accepted.after in
    search rules

pub returns-in_ok-value-in-None-clause-some : goal.returns-in_ok-value-in-None-clause-some
returns-in_ok-value-in-None-clause-some g c =
    let some : 0 < length c.self.inside.rest.now = grind (arith, nat_tests) in
    let accepted = ok_is c.read_field-item.result.0 (sym c.ok.ensures.value ∙ c.in_ok-value-in-None.was) in
    let item = ap (field_item_of g.T.Number.number) (sym accepted) ∙ c.read_field-item.ensures.item in
    first_field_step g.T.Number.int_type c.self.view_is some c.self.invariant.within item
    c.read_field-item.ensures.following

pub returns-in_err-value-in-None-clause-none : goal.returns-in_err-value-in-None-clause-none
returns-in_err-value-in-None-clause-none g c =
    let some : 0 < length c.self.inside.rest.now = grind (arith, nat_tests) in
    let step = first_field_step g.T.Number.int_type c.self.view_is some c.self.invariant.within c.read_field-item.ensures.item
    c.read_field-item.ensures.following in
    let refused = no_number g.T.Number.number c.read_field-item.result.0 _ (sym c.ok.ensures.value ∙ c.in_err-value-in-None.was) in
    rw (c.from_residual.ensures, step.0) (refl, refused)
