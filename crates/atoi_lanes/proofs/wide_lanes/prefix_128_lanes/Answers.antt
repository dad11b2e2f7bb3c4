-- A window that is not full decides, or a full one and the 8 bytes after it.
use Rattle.std.proofs.Common.{sym, ◌∙◌, arith, lit<}
use Rattle.atoi_core.proofs.lemmas.Readings.{short}
use Rattle.atoi_core.proofs.lemmas.Runs.{decimal_below_ten, zeros-le}
use Rattle.atoi_core.specs.Magnitude.{wide128}
use Rattle.atoi_lanes.proofs.lemmas.WideAnswers.{decided_full}
use Rattle.atoi_lanes.proofs.wide_lanes.prefix_128_lanes.Goals as goal

pub returns-then-high-lt32-clause-answer : goal.returns-then-high-lt32-clause-answer
returns-then-high-lt32-clause-answer c =
    let reached = c.skip_by_32-at.ensures.reached in
    let few = c.if-high-lt32.true in
    c.found_or_empty.ensures
    ∙ sym (short decimal_below_ten wide128 c.args.bound 39 (lit< tt) c.requires.digits
    reached.skipped reached.reading few (omega (arith, few))).1

pub answer_128-requires : goal.answer_128-requires
answer_128-requires c =
    let both = decided_full c.args.bound _ _ _ _ _ c.skip_by_32-at.ensures.reached c.if-high-lt32.false c.window_8-low.ensures.window in
    record { digits = c.requires.digits; few = both.0; below = both.1; inside = both.2 }

pub returns-clause-answer : goal.returns-clause-answer
returns-clause-answer c =
    c.answer_128.ensures
    ∙ (decided_full c.args.bound _ _ _ _ _ c.skip_by_32-at.ensures.reached c.if-high-lt32.false c.window_8-low.ensures.window).3

pub returns-then-high-lt32-clause-loads : goal.returns-then-high-lt32-clause-loads
returns-then-high-lt32-clause-loads c = search (arith, zeros-le)

pub returns-clause-loads : goal.returns-clause-loads
returns-clause-loads c = search (arith, zeros-le)
