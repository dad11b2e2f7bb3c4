-- After the loop `Skipped` holds, and gives answers and loads.
use Rattle.std.proofs.Common.{◌∙◌, drop, inl, inr, refl, arith}
use Rattle.std.proofs.lemmas.List.{take_rest}
use Rattle.atoi_core.proofs.lemmas.Windows.{Shows, Skipping-none, Skipping-next, Skipped, Skipped-end, Skipped-loads, Skipped-full, shows_following}
use Rattle.atoi_core.proofs.lemmas.LoopAnswers.{answers_short, answers_64}
use Rattle.atoi_core.proofs.engine.Engine.prefix_64.Goals as goal
use Rattle.atoi_core.proofs.engine.Engine.prefix_64.Goals.{then-loop-first-test+else-first-gt0, else-loop-first-test}
use Rattle.atoi_core.proofs.engine.Engine.prefix_64.Goals.{Left-loop-first, After-window_8-second}

pub loop-first-init : goal.loop-first-init
loop-first-init g c =
    (Skipping-none g.Self.Engine.table c.args.skip c.args.s.now c.window-first.new.steps, rw take_rest c.window-first.ensures.window)

pub slice_bounds-window-start : goal.slice_bounds-window-start
slice_bounds-window-start g c =
    (Skipping-next g.met.Self.Engine.below_ten c.loop-first.invariant.0 c.loop-first.invariant.1 refl
    c.loop-first-test.true c.if-first-gt0.true refl).within

pub slice_bounds-window-count : goal.slice_bounds-window-count
slice_bounds-window-count g c = slice_bounds-window-start g c

pub loop-first-preserved : goal.loop-first-preserved
loop-first-preserved g c = (
  Skipping-next g.met.Self.Engine.below_ten c.loop-first.invariant.0 c.loop-first.invariant.1 c.window-first-in-loop-first.ensures.one_step
      c.loop-first-test.true c.if-first-gt0.true refl,
  c.window-first-in-loop-first.ensures.window,
)

ended : (g : _) (c : Left-loop-first g)
    → Skipped g.Self.Engine.table c.args.skip c.args.s.now c.loop-first.at c.args.steps.now c.loop-first.steps c.loop-first.first
ended g c =
    Skipped-end g.met.Self.Engine.below_ten c.loop-first.invariant.0 c.loop-first.invariant.1
    (omega (arith, c.window-first.ensures.one_step)) (elim c.loop-first-test.branch [
      | then-loop-first-test+else-first-gt0 w ↦ inr (w.loop-first-test.true, omega (arith, w.if-first-gt0.false))
      | else-loop-first-test w ↦ inl w.loop-first-test.false
    ])

pub returns-then-first-lt16-clause-answer : goal.returns-then-first-lt16-clause-answer
returns-then-first-lt16-clause-answer g c =
    let after_skip = ended g (goal.at.returns-then-first-lt16-clause-answer g c).Left-loop-first in
    c.found_or_empty.ensures
    ∙ answers_short _ _ _ (omega arith) after_skip c.if-first-lt16.true (omega arith) c.requires.bound.digits refl refl

pub returns-then-first-lt16-clause-loads : goal.returns-then-first-lt16-clause-loads
returns-then-first-lt16-clause-loads g c =
    Skipped-loads (ended g (goal.at.returns-then-first-lt16-clause-loads g c).Left-loop-first) 0 (omega arith) (omega arith)

pub slice_bounds-window_8-start : goal.slice_bounds-window_8-start
slice_bounds-window_8-start g c = Skipped-full (ended g (goal.at.slice_bounds-window_8-start g c).Left-loop-first) c.if-first-lt16.false

pub slice_bounds-window_8-count : goal.slice_bounds-window_8-count
slice_bounds-window_8-count g c = slice_bounds-window_8-start g c

second : (g : _) (c : After-window_8-second g)
    → Shows g.Self.Engine.table 8 (drop 16 (drop c.loop-first.at c.args.s.now)) c.window_8-second.result
second g c = shows_following g.met.Self.Engine.below_ten 8 16 c.args.s.now c.loop-first.at c.window_8-second.ensures.window

pub append_digits-number-requires : goal.append_digits-number-requires
append_digits-number-requires g c = omega (arith, (second g (goal.at.append_digits-number-requires g c).After-window_8-second).len_is)

pub overflow_add-second : goal.overflow_add-second
overflow_add-second g c = omega (arith, (second g (goal.at.overflow_add-second g c).After-window_8-second).len_is)

pub answer_64-requires : goal.answer_64-requires
answer_64-requires g c =
    let at = goal.at.answer_64-requires g c in
    record {
      inside = (answers_64 c.args.bound c.args.limit (omega arith) (ended g at.Left-loop-first)
          c.if-first-lt16.false (second g at.After-window_8-second)).0;
    }

pub returns-clause-answer : goal.returns-clause-answer
returns-clause-answer g c =
    let at = goal.at.returns-clause-answer g c in
    (rw c.append_digits-number.ensures at c.answer_64.ensures)
    ∙ (answers_64 c.args.bound c.args.limit (omega arith) (ended g at.Left-loop-first)
    c.if-first-lt16.false (second g at.After-window_8-second)).1

pub returns-clause-loads : goal.returns-clause-loads
returns-clause-loads g c =
    Skipped-loads (ended g (goal.at.returns-clause-loads g c).Left-loop-first) 1
    (omega (arith, c.window_8-second.ensures.one_step)) (omega arith)
