-- The window at `at` is loaded.
use Rattle.std.proofs.Common.{◌≡◌, length, take, drop, ◌-◌}
use Rattle.atoi_core.specs.Reading.{window_of}
use Rattle.atoi_core.proofs.lemmas.Windows.{Skipping}
use Rattle.atoi_core.proofs.engine.Engine.prefix_64.Given as goal

abbrev pub invariant-loop-first : goal.invariant-loop-first
invariant-loop-first g l =
    Skipping g.Self.Engine.table l.skip l.s l.at l.initial.steps l.steps
    × (l.first ≡ window_of g.Self.Engine.table 16 (take (length l.s - l.at) (drop l.at l.s)))

abbrev pub decreases-loop-first : goal.decreases-loop-first
decreases-loop-first g l = length l.s - l.at
