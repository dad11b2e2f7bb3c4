-- The count includes the window before the call.
use Rattle.std.proofs.Common.{length, ◌-◌, ◌+◌, ◌<◌, true}
use Rattle.atoi_core.proofs.lemmas.Windows.{Skipping}
use Rattle.atoi_core.proofs.after_zeros.window_after_zeros.Given as goal

abbrev pub invariant-loop-window : goal.invariant-loop-window
invariant-loop-window g l = Skipping g.E.Engine.table true l.s l.at l.initial.steps (l.steps + 1) × (0 < l.at)

abbrev pub decreases-loop-window : goal.decreases-loop-window
decreases-loop-window g l = length l.s - l.at
