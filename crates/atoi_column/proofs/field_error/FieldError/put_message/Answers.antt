use Rattle.std.proofs.Common.{sym, ◌∙◌}
use Rattle.atoi_column.specs.FieldItems.{bad_field_of}
use Rattle.atoi_column.proofs.lemmas.Messages.{with_end_is_ascii, without_end_is_ascii}
use Rattle.atoi_column.proofs.field_error.FieldError.put_message.Goals as goal

pub returns-in-Some-clause-ascii : goal.returns-in-Some-clause-ascii
returns-in-Some-clause-ascii c =
    let place = sym c.unexpected_place.ensures ∙ c.in-Some.is in
    λ i. with_end_is_ascii (bad_field_of c.args.self.now) c.in-Some.byte i place c.put_field-end.ensures.ascii
    c.put_decimal.ensures.ascii

pub returns-in-None-clause-ascii : goal.returns-in-None-clause-ascii
returns-in-None-clause-ascii c =
    let place = sym c.unexpected_place.ensures ∙ c.in-None.is in
    λ i. without_end_is_ascii (bad_field_of c.args.self.now) i place c.put_field-end.ensures.ascii
