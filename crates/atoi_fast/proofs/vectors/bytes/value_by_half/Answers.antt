use Rattle.std.proofs.Common.{refl, ◌∙◌}
use Rattle.atoi_fast.proofs.lemmas.ShortLanes.{half_value}
use Rattle.atoi_fast.proofs.vectors.bytes.value_by_half.Goals as goal

pub value_of_half-requires : goal.value_of_half-requires
value_of_half-requires c = (half_value _ _ _ _ c.requires.few c.requires.digits refl c.half.ensures).1

pub returns : goal.returns
returns c = c.value_of_half.ensures ∙ (half_value _ _ _ _ c.requires.few c.requires.digits refl c.half.ensures).0
