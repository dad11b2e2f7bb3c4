use Rattle.atoi_column.proofs.lemmas.Guesses.{ended, ended_line}
use Rattle.atoi_column.proofs.guesses.end_of.Goals as goal

pub returns-then-separator-ne13-clause-ends : goal.returns-then-separator-ne13-clause-ends
returns-then-separator-ne13-clause-ends c = λ bytes fits some is.
    rw c.if-is_lines.true (ended_line c.args.separator bytes c.if-separator-ne13.true fits some
    (rw (c.from.ensures, c.from-then-separator-ne13.ensures) at is))

pub returns-else-has_return-clause-ends : goal.returns-else-has_return-clause-ends
returns-else-has_return-clause-ends c = λ bytes fits some is.
    ended c.args.is_lines c.args.separator bytes some (rw c.from-else-has_return.ensures at is)
