use Rattle.std.proofs.Common.{arith}
use Rattle.atoi_fast.proofs.loads.factor_of.Goals as goal

pub returns : goal.returns
returns c = grind (arith, c.from_le_bytes.ensures)
