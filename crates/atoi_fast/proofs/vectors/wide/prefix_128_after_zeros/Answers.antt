-- A window that is not full decides, or a full one and the 8 bytes after it.
use Rattle.std.proofs.Common.{sym, ◌∙◌, arith, lit<}
use Rattle.atoi_core.proofs.lemmas.Readings.{short}
use Rattle.atoi_core.proofs.lemmas.Runs.{decimal_below_ten, zeros-le}
use Rattle.atoi_core.specs.Magnitude.{wide128}
use Rattle.atoi_fast.proofs.lemmas.VectorAnswers.{decided_full}
use Rattle.atoi_fast.proofs.vectors.wide.prefix_128_after_zeros.Goals as goal

pub returns-then-window-lt32-clause-answer : goal.returns-then-window-lt32-clause-answer
returns-then-window-lt32-clause-answer c =
    let r = c.window_after_zeros-at.ensures.reached in
    let few = c.if-window-lt32.true in
    c.found_or_empty.ensures
    ∙ sym (short decimal_below_ten wide128 c.args.bound 39 (lit< tt) c.requires.digits r.skipped r.reading few (omega (arith, few))).1

pub answer_after_32-requires-clause-below : goal.answer_after_32-requires-clause-below
answer_after_32-requires-clause-below c =
    let r = c.window_after_zeros-at.ensures.reached in
    (decided_full c.args.bound r.skipped r.reading c.if-window-lt32.false (λ _. r.ends c.if-window-lt32.false)).0

pub returns-clause-answer : goal.returns-clause-answer
returns-clause-answer c =
    let r = c.window_after_zeros-at.ensures.reached in
    let decides = decided_full c.args.bound r.skipped r.reading c.if-window-lt32.false (λ _. r.ends c.if-window-lt32.false) in
    c.answer_after_32.ensures.answer ∙ decides.2

pub returns-then-window-lt32-clause-least : goal.returns-then-window-lt32-clause-least
returns-then-window-lt32-clause-least c = search (arith, zeros-le)

pub returns-clause-least : goal.returns-clause-least
returns-clause-least c = search (arith, zeros-le)
