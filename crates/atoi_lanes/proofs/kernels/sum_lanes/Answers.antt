use Rattle.atoi_lanes.proofs.lemmas.LaneSums.{lanes_sum}
use Rattle.atoi_lanes.proofs.kernels.sum_lanes.Goals as goal

pub returns : goal.returns
returns c = lanes_sum c.args.v c.args.len c.fits-v.0 c.requires.within c.requires.digits
