-- The first window decides if it reports no zeros.
use Rattle.std.proofs.Common.{true, inr, refl, ◌∙◌, arith}
use Rattle.atoi_core.proofs.lemmas.LoopAnswers.{narrow_decides}
use Rattle.atoi_core.proofs.lemmas.Windows.{Skipped, Skipped-at_once, Skipped-loads}
use Rattle.atoi_core.proofs.narrow.narrow_whole_windows.Goals as goal
use Rattle.atoi_core.proofs.narrow.narrow_whole_windows.Goals.{After-narrow_answer}

first : (g : _) (c : After-narrow_answer g)
    → Skipped g.E.Engine.table true c.args.s.now 0 c.args.steps.now c.window-window.new.steps c.window-window.result
first g c =
    let e = c.window-window.ensures in
    Skipped-at_once g.met.E.Engine.below_ten true c.args.s.now e.window e.one_step (inr (refl, omega arith))

pub returns-clause-answer : goal.returns-clause-answer
returns-clause-answer g c = c.narrow_answer.ensures ∙ narrow_decides (first g c) (omega arith) c.args.bound c.requires.high

pub returns-clause-loads : goal.returns-clause-loads
returns-clause-loads g c = Skipped-loads (first g c) 0 (omega arith) (omega arith)
