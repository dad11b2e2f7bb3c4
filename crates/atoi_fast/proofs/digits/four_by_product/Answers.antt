-- The factor shifts, and sums as `sum_of` does; the lower sum is 0.
use Rattle.std.proofs.Common.{◌*◌, ◌-◌, ◌/◌, ◌%◌, ◌^◌, ◌∙◌, ap, arith, bit_and}
use Rattle.atoi_core.proofs.lemmas.WordFields.{sum_most}
use Rattle.atoi_fast.proofs.lemmas.WordRuns.{factor_shifted, sum_of_high_field}
use Rattle.atoi_fast.proofs.digits.four_by_product.Goals as goal

pub returns-clause-sum : goal.returns-clause-sum
returns-clause-sum c =
    ap (λ p. bit_and (p / 2 ^ 8) 0x00FF_00FF_00FF_00FF * 0x64_0001 % 2 ^ 64 / 2 ^ 48)
    (factor_shifted c.args.digits 0xA01 (64 - 8 * c.args.len) _ (grind arith))
    ∙ sum_of_high_field c.args.len c.args.digits c.requires.few c.requires.halves

pub returns-clause-most : goal.returns-clause-most
returns-clause-most c = omega (arith, returns-clause-sum c, sum_most 4 c.args.len c.args.digits c.requires.few)
