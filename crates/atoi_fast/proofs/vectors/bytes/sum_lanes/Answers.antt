use Rattle.atoi_fast.proofs.lemmas.DigitLanes.{moved_values}
use Rattle.atoi_fast.proofs.vectors.bytes.sum_lanes.Goals as goal

pub value_of_lanes-requires : goal.value_of_lanes-requires
value_of_lanes-requires c = (moved_values c.args.len c.args.v _ c.requires.within c.fits-v.0 c.requires.digits c.shuffle.ensures).1
