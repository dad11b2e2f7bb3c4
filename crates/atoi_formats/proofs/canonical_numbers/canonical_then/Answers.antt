-- A byte that is no digit ends the number.
use Rattle.std.proofs.Common.{◌∷◌, rules}
use Rattle.atoi_formats.proofs.lemmas.Then.{ends_before}
use Rattle.atoi_formats.proofs.canonical_numbers.canonical_then.Goals as goal

pub returns-in_err-number-clause-none : goal.returns-in_err-number-clause-none
returns-in_err-number-clause-none g c = rw c.from_residual.ensures (λ number bytes rest is parts.
    c.in_err-number.ensures.none number bytes (c.args.byte ∷ rest) is (ends_before c.args.byte rest c.requires) parts)

pub returns-in_err-strip_byte-clause-none : goal.returns-in_err-strip_byte-clause-none
returns-in_err-strip_byte-clause-none g c = rw c.from_residual-in_err-strip_byte.ensures (λ number bytes rest is parts.
    let same = c.in_ok-number.ensures.only number bytes (c.args.byte ∷ rest)
    is (ends_before c.args.byte rest c.requires) parts in search rules)

pub returns-clause-only : goal.returns-clause-only
returns-clause-only g c = λ number bytes rest is parts.
    let same = c.in_ok-number.ensures.only number bytes (c.args.byte ∷ rest)
    is (ends_before c.args.byte rest c.requires) parts in search rules
