-- What `digits_between` finds is all digits before a colon.
use Rattle.std.proofs.Common.{pos, ◌∷◌, sym, rules}
use Rattle.atoi_uses.proofs.lemmas.Times.{before_colon}
use Rattle.atoi_uses.proofs.times.hour_and_rest.Goals as goal

pub returns-in_default-clause-none : goal.returns-in_default-clause-none
returns-in_default-clause-none c = λ hour digits rest written short parts.
    c.in_default.ensures.none (pos hour) digits (58 ∷ rest) written (before_colon digits rest written.numeral short) parts

pub returns-in_default-strip_byte-clause-none : goal.returns-in_default-strip_byte-clause-none
returns-in_default-strip_byte-clause-none c = λ hour digits rest written short parts.
    let same = c.in-Some.ensures.only (pos hour) digits (58 ∷ rest) written (before_colon digits rest written.numeral short) parts in
    c.in_default-strip_byte.ensures.none rest (sym same.1)

pub returns-clause-only : goal.returns-clause-only
returns-clause-only c = λ hour digits rest written short parts.
    let same = c.in-Some.ensures.only (pos hour) digits (58 ∷ rest) written (before_colon digits rest written.numeral short) parts in
    let after = sym same.1 in search rules
