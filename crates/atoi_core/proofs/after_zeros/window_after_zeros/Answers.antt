-- The loop goes on after the zeros of the first window.
use Rattle.std.proofs.Common.{◌+◌, true, inr, refl, sym, arith}
use Rattle.atoi_core.proofs.lemmas.Windows.{Skipping-first_window, Skipping-next, Skipped-end}
use Rattle.atoi_core.proofs.lemmas.LoopAnswers.{dropped_is}
use Rattle.atoi_core.proofs.after_zeros.window_after_zeros.Goals as goal

pub loop-window-init : goal.loop-window-init
loop-window-init g c =
    (Skipping-first_window g.met.E.Engine.below_ten c.args.s.now _ _ c.requires.first_window c.requires.some, c.requires.some)

pub loop-window-preserved : goal.loop-window-preserved
loop-window-preserved g c = (
  Skipping-next g.met.E.Engine.below_ten c.loop-window.invariant.0 c.window-window.ensures.window (omega arith) refl (omega arith) refl,
  omega (arith, c.loop-window.invariant.1),
)

pub returns-then-window-eq0-clause-offset : goal.returns-then-window-eq0-clause-offset
returns-then-window-eq0-clause-offset g c =
    let after_skip = Skipped-end g.met.E.Engine.below_ten {before = c.args.steps.now} {next = c.window-window.new.steps + 1}
    c.loop-window.invariant.0 c.window-window.ensures.window (omega arith) (inr (refl, c.if-window-eq0.true)) in
    sym (dropped_is true 0 after_skip)
