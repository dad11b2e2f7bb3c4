use Rattle.atoi_core.specs.Refusal.{refusal_of}
use Rattle.atoi_column.proofs.lemmas.Messages.{field_is_ascii}
use Rattle.atoi_column.proofs.text.put_field.Goals as goal

pub returns-clause-ascii : goal.returns-clause-ascii
returns-clause-ascii c = λ i.
    field_is_ascii c.args.index c.args.place i (refusal_of c.args.cause) c.put_decimal-end.ensures.ascii
    c.put_decimal-end-2.ensures.ascii
