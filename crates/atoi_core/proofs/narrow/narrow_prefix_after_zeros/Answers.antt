-- The answer follows from where the loop of `window_after_zeros` ends.
use Rattle.std.proofs.Common.{◌∙◌, arith}
use Rattle.atoi_core.proofs.lemmas.Windows.{Skipped-after_zeros}
use Rattle.atoi_core.proofs.lemmas.LoopAnswers.{narrow_after_skip}
use Rattle.atoi_core.proofs.narrow.narrow_prefix_after_zeros.Goals as goal

pub returns-clause-answer : goal.returns-clause-answer
returns-clause-answer g c =
    let e = c.window_after_zeros-at.ensures in
    c.answer_at.ensures
    ∙ narrow_after_skip (Skipped-after_zeros g.met.E.Engine.below_ten c.args.s.now c.args.steps.now e.offset e.window e.no_zeros e.loads)
    (λ no. absurd (cc no)) _ _ c.requires.high (omega (arith, e.some))
