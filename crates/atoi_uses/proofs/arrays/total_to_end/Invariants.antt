-- `total` is what the numbers before `left` add up to.
use Rattle.std.proofs.Common.{length}
use Rattle.atoi_uses.proofs.lemmas.Arrays.{HasRead}
use Rattle.atoi_uses.proofs.arrays.total_to_end.Given as goal

abbrev pub invariant-loop-number : goal.invariant-loop-number
invariant-loop-number l = HasRead l.text l.left l.total

abbrev pub decreases-loop-number : goal.decreases-loop-number
decreases-loop-number l = length l.left
