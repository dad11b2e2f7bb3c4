use Rattle.std.proofs.Common.{sym, arith, rules}
use Rattle.atoi_simd.specs.Laws.{positive}
use Rattle.atoi_uses.proofs.durations.capped_number.Goals as goal

pub returns-in_default-clause-digits : goal.returns-in_default-clause-digits
returns-in_default-clause-digits c =
    let large = c.none_or_too_large.ensures.too_large positive c.args.text.now _ (sym c.in-Err.ensures.answer) (omega arith) in search rules
