-- The byte is a digit.
use Rattle.atoi_fast.proofs.lemmas.FirstBytes.{only_digit}
use Rattle.atoi_fast.proofs.short_slice.loaded_digit.Goals as goal

pub returns-clause-number : goal.returns-clause-number
returns-clause-number g c =
    rw (c.from_parts.ensures, c.from.ensures)
    (only_digit g.T.Number.int_type g.met.T.Number.type_is.sized c.args.s.now c.requires.one c.requires.digit.0 c.requires.digit.1)
