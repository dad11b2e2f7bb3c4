use Rattle.atoi_column.proofs.lemmas.Messages.{trailing_is_ascii}
use Rattle.atoi_column.proofs.error.ColumnError.put_message.Goals as goal

pub returns-in-Field-clause-ascii : goal.returns-in-Field-clause-ascii
returns-in-Field-clause-ascii c = rw c.in-Field.is c.put_field.ensures.ascii

pub returns-in-Trailing-clause-ascii : goal.returns-in-Trailing-clause-ascii
returns-in-Trailing-clause-ascii c = rw c.in-Trailing.is
    (λ i. trailing_is_ascii c.in-Trailing.index c.in-Trailing.place i c.put_decimal-end.ensures.ascii c.put_decimal.ensures.ascii)
