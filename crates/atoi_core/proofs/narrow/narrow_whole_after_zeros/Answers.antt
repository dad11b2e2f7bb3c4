-- The last window of the loop decides.
use Rattle.std.proofs.Common.{◌∙◌, arith}
use Rattle.atoi_core.proofs.lemmas.LoopAnswers.{narrow_decides}
use Rattle.atoi_core.proofs.lemmas.Windows.{Skipped-after_zeros}
use Rattle.atoi_core.proofs.narrow.narrow_whole_after_zeros.Goals as goal

pub returns-clause-answer : goal.returns-clause-answer
returns-clause-answer g c =
    let e = c.window_after_zeros-at.ensures in
    c.narrow_answer.ensures
    ∙ narrow_decides (Skipped-after_zeros g.met.E.Engine.below_ten c.args.s.now c.args.steps.now e.offset e.window e.no_zeros e.loads)
    (omega arith) c.args.bound c.requires.high
