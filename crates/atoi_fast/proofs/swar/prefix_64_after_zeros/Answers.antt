-- The answers follow from where the loop of `window_after_zeros` ends.
use Rattle.std.proofs.Common.{◌+◌, true, refl, ◌∙◌, arith, drop, ne_eqb}
use Rattle.atoi_core.specs.Digit.{decimal_table}
use Rattle.atoi_core.specs.Magnitude.{wide64}
use Rattle.atoi_core.proofs.lemmas.Runs.{decimal_below_ten}
use Rattle.atoi_core.proofs.lemmas.Windows.{Shows, Skipped, Skipped-after_zeros, Skipped-full, shows_following}
use Rattle.atoi_core.proofs.lemmas.LoopAnswers.{answers_short, answers_64}
use Rattle.atoi_fast.proofs.swar.prefix_64_after_zeros.Goals as goal
use Rattle.atoi_fast.proofs.swar.prefix_64_after_zeros.Goals.{After-window_after_zeros-at, After-window_8-second}

-- What holds when that loop has ended.
ended : (c : After-window_after_zeros-at) → let found = c.window_after_zeros-at.result in
    Skipped decimal_table true c.args.s.now found.0 c.args.steps.now (c.window_after_zeros-at.new.steps + 1) found.1
ended c = search (arith, Skipped-after_zeros, decimal_below_ten)

pub returns-then-first-lt16-clause-answer : goal.returns-then-first-lt16-clause-answer
returns-then-first-lt16-clause-answer c =
    let after_skip = ended (goal.at.returns-then-first-lt16-clause-answer c).After-window_after_zeros-at in
    let some = ne_eqb (c.window_after_zeros-at.result.0 + c.window_after_zeros-at.result.1.len) 0
    (omega (arith, c.window_after_zeros-at.ensures.some)) in
    rw some at (answers_short wide64 c.args.bound c.args.limit (omega arith)
    after_skip c.if-first-lt16.true (omega arith) c.requires.bound.digits refl refl)

pub slice_bounds-window_8-start : goal.slice_bounds-window_8-start
slice_bounds-window_8-start c =
    Skipped-full (ended (goal.at.slice_bounds-window_8-start c).After-window_after_zeros-at) c.if-first-lt16.false

pub slice_bounds-window_8-count : goal.slice_bounds-window_8-count
slice_bounds-window_8-count c = slice_bounds-window_8-start c

second : (c : After-window_8-second)
    → Shows decimal_table 8 (drop 16 (drop c.window_after_zeros-at.result.0 c.args.s.now)) c.window_8-second.result
second c = shows_following decimal_below_ten 8 16 c.args.s.now c.window_after_zeros-at.result.0 c.window_8-second.ensures.window

pub append_digits-number-requires : goal.append_digits-number-requires
append_digits-number-requires c = omega (arith, (second (goal.at.append_digits-number-requires c).After-window_8-second).len_is)

pub overflow_add-second : goal.overflow_add-second
overflow_add-second c = omega (arith, (second (goal.at.overflow_add-second c).After-window_8-second).len_is)

pub answer_64-requires : goal.answer_64-requires
answer_64-requires c =
    let at = goal.at.answer_64-requires c in
    record {
      inside = (answers_64 c.args.bound c.args.limit (omega arith)
          (ended at.After-window_after_zeros-at) c.if-first-lt16.false (second at.After-window_8-second)).0;
    }

pub returns-clause-answer : goal.returns-clause-answer
returns-clause-answer c =
    let at = goal.at.returns-clause-answer c in
    (rw c.append_digits-number.ensures at c.answer_64.ensures)
    ∙ (answers_64 c.args.bound c.args.limit (omega arith) (ended at.After-window_after_zeros-at)
    c.if-first-lt16.false (second at.After-window_8-second)).1
