-- The zeros at the start of the last window are some of its digits.
use Rattle.std.proofs.Common.{◌∙◌, arith}
use Rattle.atoi_core.proofs.lemmas.Readings.{within}
use Rattle.atoi_core.proofs.lemmas.Runs.{zeros-le}
use Rattle.atoi_fast.proofs.lemmas.VectorAnswers.{decided_64}
use Rattle.atoi_fast.proofs.vectors.wide.prefix_64_after_zeros.Goals as goal

pub overflow_sub-window : goal.overflow_sub-window
overflow_sub-window c = (within c.window_after_zeros-at.ensures.reached.reading).0

pub answer_64-requires : goal.answer_64-requires
answer_64-requires c =
    omega (arith, (within c.window_after_zeros-at.ensures.reached.reading).0, c.window_after_zeros-at.ensures.reached.within)

pub returns-clause-answer : goal.returns-clause-answer
returns-clause-answer c =
    c.answer_64.ensures ∙ decided_64 c.args.bound c.args.limit c.requires.limit_high c.window_after_zeros-at.ensures.reached

pub returns-clause-least : goal.returns-clause-least
returns-clause-least c = search (arith, zeros-le)
