-- All bytes read so far are zeros.
use Rattle.std.proofs.Common.{◌≡◌, ◌+◌, drop}
use Rattle.atoi_core.specs.Run.{zeros}
use Rattle.atoi_core.proofs.engine.alphabet.count_zeros.Given as goal

abbrev pub invariant-loop-at : goal.invariant-loop-at
invariant-loop-at g l = l.at + zeros g.A.Alphabet.table (drop l.at l.s) ≡ zeros g.A.Alphabet.table l.s
