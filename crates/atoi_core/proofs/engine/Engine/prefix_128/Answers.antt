-- After the loop `Skipped` holds, and gives answers and loads.
use Rattle.std.proofs.Common.{◌∙◌, drop, inl, inr, refl, arith, lit<}
use Rattle.std.proofs.lemmas.List.{take_rest}
use Rattle.std.proofs.lemmas.List.Sums.{prefix_len-le-length}
use Rattle.atoi_core.specs.Digit.{is_digit}
use Rattle.atoi_core.proofs.lemmas.Windows.{Shows, Skipping-none, Skipping-next, Skipped, Skipped-end, Skipped-loads, Skipped-full, shows_following, two_full}
use Rattle.atoi_core.proofs.lemmas.LoopAnswers.{answers_short, answers_two, answers_128}
use Rattle.atoi_core.proofs.engine.Engine.prefix_128.Goals as goal
use Rattle.atoi_core.proofs.engine.Engine.prefix_128.Goals.{then-loop-first-test+else-first-gt0, else-loop-first-test}
use Rattle.atoi_core.proofs.engine.Engine.prefix_128.Goals.{Left-loop-first, After-window-second, After-window_8-third}

pub loop-first-init : goal.loop-first-init
loop-first-init g c =
    (Skipping-none g.Self.Engine.table c.args.skip c.args.s.now c.window-first.new.steps, rw take_rest c.window-first.ensures.window)

pub slice_bounds-window-start : goal.slice_bounds-window-start
slice_bounds-window-start g c =
    (Skipping-next g.met.Self.Engine.below_ten c.loop-first.invariant.0 c.loop-first.invariant.1 refl
    c.loop-first-test.true c.if-first-gt0.true refl).within

pub slice_bounds-window-count : goal.slice_bounds-window-count
slice_bounds-window-count g c = slice_bounds-window-start g c

pub loop-first-preserved : goal.loop-first-preserved
loop-first-preserved g c = (
  Skipping-next g.met.Self.Engine.below_ten c.loop-first.invariant.0 c.loop-first.invariant.1 c.window-first-in-loop-first.ensures.one_step
      c.loop-first-test.true c.if-first-gt0.true refl,
  c.window-first-in-loop-first.ensures.window,
)

ended : (g : _) (c : Left-loop-first g)
    → Skipped g.Self.Engine.table c.args.skip c.args.s.now c.loop-first.skipped c.args.steps.now c.loop-first.steps c.loop-first.first
ended g c =
    Skipped-end g.met.Self.Engine.below_ten c.loop-first.invariant.0 c.loop-first.invariant.1
    (omega (arith, c.window-first.ensures.one_step)) (elim c.loop-first-test.branch [
      | then-loop-first-test+else-first-gt0 w ↦ inr (w.loop-first-test.true, omega (arith, w.if-first-gt0.false))
      | else-loop-first-test w ↦ inl w.loop-first-test.false
    ])

pub returns-then-first-lt16-clause-answer : goal.returns-then-first-lt16-clause-answer
returns-then-first-lt16-clause-answer g c =
    let after_skip = ended g (goal.at.returns-then-first-lt16-clause-answer g c).Left-loop-first in
    c.found_or_empty.ensures ∙ answers_short _ _ _ (lit< tt) after_skip c.if-first-lt16.true (lit< tt) c.requires.digits c.from.ensures refl

pub returns-then-first-lt16-clause-loads : goal.returns-then-first-lt16-clause-loads
returns-then-first-lt16-clause-loads g c =
    Skipped-loads (ended g (goal.at.returns-then-first-lt16-clause-loads g c).Left-loop-first) 0 (omega arith) (omega arith)

pub slice_bounds-window-start-2 : goal.slice_bounds-window-start-2
slice_bounds-window-start-2 g c = Skipped-full (ended g (goal.at.slice_bounds-window-start-2 g c).Left-loop-first) c.if-first-lt16.false

pub slice_bounds-window-count-2 : goal.slice_bounds-window-count-2
slice_bounds-window-count-2 g c = slice_bounds-window-start-2 g c

second : (g : _) (c : After-window-second g)
    → Shows g.Self.Engine.table 16 (drop 16 (drop c.loop-first.skipped c.args.s.now)) c.window-second.result
second g c = shows_following g.met.Self.Engine.below_ten 16 16 c.args.s.now c.loop-first.skipped c.window-second.ensures.window

third : (g : _) (c : After-window_8-third g)
    → Shows g.Self.Engine.table 8 (drop 32 (drop c.loop-first.skipped c.args.s.now)) c.window_8-third.result
third g c = shows_following g.met.Self.Engine.below_ten 8 32 c.args.s.now c.loop-first.skipped c.window_8-third.ensures.window

pub append_digits-high-requires : goal.append_digits-high-requires
append_digits-high-requires g c = omega (arith, (second g (goal.at.append_digits-high-requires g c).After-window-second).len_is)

pub returns-then-second-lt16-clause-answer : goal.returns-then-second-lt16-clause-answer
returns-then-second-lt16-clause-answer g c =
    let at = goal.at.returns-then-second-lt16-clause-answer g c in
    answers_two g.met.Self.Engine.below_ten _ (ended g at.Left-loop-first) c.if-first-lt16.false
    (second g at.After-window-second) c.if-second-lt16.true c.requires.digits c.append_digits-high.ensures (omega arith)

pub returns-then-second-lt16-clause-loads : goal.returns-then-second-lt16-clause-loads
returns-then-second-lt16-clause-loads g c =
    Skipped-loads (ended g (goal.at.returns-then-second-lt16-clause-loads g c).Left-loop-first) 1
    (omega (arith, c.window-second.ensures.one_step)) (omega arith)

pub slice_bounds-window_8-start : goal.slice_bounds-window_8-start
slice_bounds-window_8-start g c =
    let at = goal.at.slice_bounds-window_8-start g c in
    let after_skip = ended g at.Left-loop-first in
    let full = two_full (drop c.loop-first.skipped c.args.s.now) after_skip.window c.if-first-lt16.false
    (second g at.After-window-second) c.if-second-lt16.false in
    omega (arith, full, after_skip.run_is, prefix_len-le-length (is_digit g.Self.Engine.table) c.args.s.now)

pub slice_bounds-window_8-count : goal.slice_bounds-window_8-count
slice_bounds-window_8-count g c = slice_bounds-window_8-start g c

pub answer_128-requires : goal.answer_128-requires
answer_128-requires g c =
    let at = goal.at.answer_128-requires g c in
    let back = third g at.After-window_8-third in
    let all = answers_128 g.met.Self.Engine.below_ten c.args.bound (ended g at.Left-loop-first) c.if-first-lt16.false
    (second g at.After-window-second) c.if-second-lt16.false back c.append_digits-high.ensures in
    record { digits = c.requires.digits; few = omega (arith, back.len_is); below = all.0; inside = all.1 }

pub returns-clause-answer : goal.returns-clause-answer
returns-clause-answer g c =
    let at = goal.at.returns-clause-answer g c in
    c.answer_128.ensures
    ∙ (answers_128 g.met.Self.Engine.below_ten c.args.bound (ended g at.Left-loop-first) c.if-first-lt16.false
    (second g at.After-window-second) c.if-second-lt16.false (third g at.After-window_8-third) c.append_digits-high.ensures).2

pub returns-clause-loads : goal.returns-clause-loads
returns-clause-loads g c =
    Skipped-loads (ended g (goal.at.returns-clause-loads g c).Left-loop-first) 2
    (omega (arith, c.window-second.ensures.one_step, c.window_8-third.ensures.one_step)) (omega arith)
