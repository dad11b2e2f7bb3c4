-- The number is the first item.
use Rattle.std.proofs.Common.{Ok, refl}
use Rattle.atoi_column.proofs.lemmas.FieldItems.{first_field_step}
use Rattle.atoi_column.proofs.fields.Fields.guessed_number.Goals as goal

pub returns-clause-some : goal.returns-clause-some
returns-clause-some g c =
    let found = c.in_ok-value.ensures in
    let accepted = found.accepted c.self.invariant.separates in
    first_field_step g.T.Number.int_type {item = Ok (g.T.Number.number c.in_ok-value.value)} c.self.view_is found.some
    c.self.invariant.within (rw accepted.accepted refl) accepted.after
