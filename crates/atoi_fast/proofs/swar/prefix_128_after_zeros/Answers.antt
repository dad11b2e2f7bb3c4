-- The answers follow from where the loop of `window_after_zeros` ends.
use Rattle.std.proofs.Common.{◌+◌, true, refl, ◌∙◌, arith, lit<, drop, ne_eqb}
use Rattle.atoi_core.specs.Digit.{decimal_table}
use Rattle.atoi_core.specs.Magnitude.{wide128}
use Rattle.atoi_core.proofs.lemmas.Runs.{decimal_below_ten}
use Rattle.atoi_core.proofs.lemmas.Windows.{Shows, Skipped, Skipped-after_zeros, Skipped-full, shows_following}
use Rattle.atoi_core.proofs.lemmas.LoopAnswers.{answers_short, answers_two}
use Rattle.atoi_fast.proofs.lemmas.FullWindows.{after_32}
use Rattle.atoi_fast.proofs.swar.prefix_128_after_zeros.Goals as goal
use Rattle.atoi_fast.proofs.swar.prefix_128_after_zeros.Goals.{After-window_after_zeros-at, After-window-second}

-- What holds when that loop has ended.
ended : (c : After-window_after_zeros-at) → let found = c.window_after_zeros-at.result in
    Skipped decimal_table true c.args.s.now found.0 c.args.steps.now (c.window_after_zeros-at.new.steps + 1) found.1
ended c = search (arith, Skipped-after_zeros, decimal_below_ten)

pub returns-then-first-lt16-clause-answer : goal.returns-then-first-lt16-clause-answer
returns-then-first-lt16-clause-answer c =
    let after_skip = ended (goal.at.returns-then-first-lt16-clause-answer c).After-window_after_zeros-at in
    let some = ne_eqb (c.window_after_zeros-at.result.0 + c.window_after_zeros-at.result.1.len) 0
    (omega (arith, c.window_after_zeros-at.ensures.some)) in
    rw some at (answers_short wide128 c.args.bound 39 (lit< tt) after_skip
    c.if-first-lt16.true (lit< tt) c.requires.digits c.from.ensures refl)

pub slice_bounds-window-start : goal.slice_bounds-window-start
slice_bounds-window-start c = Skipped-full (ended (goal.at.slice_bounds-window-start c).After-window_after_zeros-at) c.if-first-lt16.false

pub slice_bounds-window-count : goal.slice_bounds-window-count
slice_bounds-window-count c = slice_bounds-window-start c

second : (c : After-window-second)
    → Shows decimal_table 16 (drop 16 (drop c.window_after_zeros-at.result.0 c.args.s.now)) c.window-second.result
second c = shows_following decimal_below_ten 16 16 c.args.s.now c.window_after_zeros-at.result.0 c.window-second.ensures.window

pub append_digits-number-requires : goal.append_digits-number-requires
append_digits-number-requires c = omega (arith, (second (goal.at.append_digits-number-requires c).After-window-second).len_is)

pub returns-then-second-lt16-clause-answer : goal.returns-then-second-lt16-clause-answer
returns-then-second-lt16-clause-answer c =
    let at = goal.at.returns-then-second-lt16-clause-answer c in
    answers_two decimal_below_ten _ (ended at.After-window_after_zeros-at)
    c.if-first-lt16.false (second at.After-window-second) c.if-second-lt16.true
    c.requires.digits c.append_digits-number.ensures (omega arith)

pub answer_after_32-requires : goal.answer_after_32-requires
answer_after_32-requires c =
    let at = goal.at.answer_after_32-requires c in
    let known = after_32 c.args.bound (ended at.After-window_after_zeros-at) c.if-first-lt16.false
    (second at.After-window-second) c.if-second-lt16.false _ refl c.append_digits-number.ensures in
    record { digits = c.requires.digits; below = known.0; inside = known.1 }

pub returns-clause-answer : goal.returns-clause-answer
returns-clause-answer c =
    let at = goal.at.returns-clause-answer c in
    c.answer_after_32.ensures.answer
    ∙ (after_32 c.args.bound (ended at.After-window_after_zeros-at) c.if-first-lt16.false
    (second at.After-window-second) c.if-second-lt16.false _ refl c.append_digits-number.ensures).2
