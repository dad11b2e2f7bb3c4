use Rattle.std.proofs.Common.{◌∙◌, arith}
use Rattle.std.proofs.lemmas.List.Sums.{prefix_len-le-length}
use Rattle.atoi_core.specs.Digit.{decimal_table, is_digit}
use Rattle.atoi_lanes.proofs.lemmas.Masks.{digits_counted}
use Rattle.atoi_lanes.proofs.kernels.len_lanes.Goals as goal

pub returns-clause-len : goal.returns-clause-len
returns-clause-len c = c.trailing_ones.ensures ∙ digits_counted 16 c.args.v (omega arith) c.fits-v.0 c.fits-v.1

pub returns-clause-most : goal.returns-clause-most
returns-clause-most c = omega (arith, returns-clause-len c, c.fits-v.0, prefix_len-le-length (is_digit decimal_table) c.args.v)
