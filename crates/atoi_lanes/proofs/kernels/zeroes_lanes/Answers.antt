use Rattle.std.proofs.Common.{◌∙◌, arith}
use Rattle.std.proofs.lemmas.List.Sums.{prefix_len-le-length}
use Rattle.atoi_core.specs.Digit.{decimal_table, is_zero}
use Rattle.atoi_lanes.proofs.lemmas.Masks.{zeros_counted}
use Rattle.atoi_lanes.proofs.kernels.zeroes_lanes.Goals as goal

pub returns-clause-zeroes : goal.returns-clause-zeroes
returns-clause-zeroes c = c.trailing_ones.ensures ∙ zeros_counted 16 c.args.v (omega arith) c.fits-v.0 c.fits-v.1

pub returns-clause-most : goal.returns-clause-most
returns-clause-most c = omega (arith, returns-clause-zeroes c, c.fits-v.0, prefix_len-le-length (is_zero decimal_table) c.args.v)
