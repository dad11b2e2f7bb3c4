-- The number at the start ends with the slice.
use Rattle.atoi_fast.proofs.lemmas.ShortNumbers.{whole_begins}
use Rattle.atoi_fast.proofs.quick.long_slice.Goals as goal

pub returns-then-len-s : goal.returns-then-len-s
returns-then-len-s g c =
    whole_begins g.T.Number.int_type c.args.s.now (g.T.Number.number c.in_ok-number.number) c.in_ok-number.len c.in_ok-number.ensures.answer
    c.if-len-s.true
