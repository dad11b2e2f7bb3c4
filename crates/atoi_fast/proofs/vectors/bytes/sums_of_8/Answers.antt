use Rattle.atoi_fast.proofs.lemmas.JoinedDigits.{eights_joined}
use Rattle.atoi_fast.proofs.vectors.bytes.sums_of_8.Goals as goal

pub returns : goal.returns
returns c = eights_joined c.args.digits c.fits-digits.0 c.requires c.sums_of_4-fields.result c.sums_of_4-fields.ensures
