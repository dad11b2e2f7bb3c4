-- The factor shifts, and sums as `sum_of` does.
use Rattle.std.proofs.Common.{◌*◌, ◌-◌, ◌∙◌, arith}
use Rattle.atoi_core.proofs.lemmas.WordFields.{sum_most}
use Rattle.atoi_fast.specs.Short.{at_top}
use Rattle.atoi_fast.proofs.lemmas.WordRuns.{factor_shifted, sum_at_top}
use Rattle.atoi_fast.proofs.digits.value_by_product.Goals as goal

pub returns-clause-sum : goal.returns-clause-sum
returns-clause-sum c =
    c.sum_of_product.ensures (at_top c.args.len c.args.digits) (omega arith) c.requires.halves
    (factor_shifted c.args.digits 0xA01 (64 - 8 * c.args.len) _ (grind arith))
    ∙ sum_at_top c.args.len c.args.digits (omega arith)

pub returns-clause-most : goal.returns-clause-most
returns-clause-most c = omega (arith, returns-clause-sum c, sum_most 7 c.args.len c.args.digits (omega arith))
