use Rattle.std.proofs.Common.{refl, ◌∙◌}
use Rattle.atoi_fast.proofs.lemmas.DigitLanes.{last_values}
use Rattle.atoi_fast.proofs.vectors.bytes.value_of_last_lanes.Goals as goal

pub value_of_lanes-requires : goal.value_of_lanes-requires
value_of_lanes-requires c = (last_values c.args.len c.args.v _ c.requires.within c.fits-v.0 c.requires.digits refl).1

pub returns : goal.returns
returns c = c.value_of_lanes.ensures ∙ (last_values c.args.len c.args.v _ c.requires.within c.fits-v.0 c.requires.digits refl).0
