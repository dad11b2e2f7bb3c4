use Rattle.std.proofs.Common.{eqb, cond, refl, ◌∙◌, arith}
use Rattle.std.proofs.lemmas.Simd.{zip2_splat}
use Rattle.std.proofs.lemmas.List.Sums.{prefix_len-le-length}
use Rattle.atoi_core.specs.Digit.{decimal_table, is_zero}
use Rattle.atoi_core.proofs.lemmas.LaneMasks.{ones-of_lanes}
use Rattle.atoi_fast.proofs.vectors.bytes.zeroes_lanes.Goals as goal

pub returns-clause-zeroes : goal.returns-clause-zeroes
returns-clause-zeroes c =
    let v = c.args.v in
    let lanes = zip2_splat (λ a b. cond (eqb a b) 255 0) v 16 48 c.fits-v.0 in
    c.trailing_ones.ensures
    ∙ ones-of_lanes (is_zero decimal_table) v (omega arith) _ _ c.fits-v.1 lanes refl

pub returns-clause-most : goal.returns-clause-most
returns-clause-most c = omega (arith, returns-clause-zeroes c, prefix_len-le-length (is_zero decimal_table) c.args.v)
