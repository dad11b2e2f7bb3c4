-- The pairs before `rest` add up to `total`.
use Rattle.std.proofs.Common.{length}
use Rattle.atoi_uses.specs.Pairs.{HavePairs}
use Rattle.atoi_uses.proofs.pairs.total_of_pairs.Given as goal

abbrev pub invariant-loop-rest : goal.invariant-loop-rest
invariant-loop-rest l = HavePairs l.text l.total l.rest

abbrev pub decreases-loop-rest : goal.decreases-loop-rest
decreases-loop-rest l = length l.rest
