-- Before the loop, the caller's loads and one more were made.
use Rattle.std.proofs.Common.{◌≡◌, ◌+◌, ◌-◌, ◌/◌, length}
use Rattle.atoi_lanes.proofs.lemmas.Skipping.{Skipping}
use Rattle.atoi_lanes.proofs.wide_lanes.skip_by_32.Given as goal

abbrev pub invariant-loop-window : goal.invariant-loop-window
invariant-loop-window l = (l.steps ≡ l.initial.steps + (l.at + 31) / 32) × Skipping l.skip l.s l.at l.window

abbrev pub decreases-loop-window : goal.decreases-loop-window
decreases-loop-window l = length l.s - l.at
