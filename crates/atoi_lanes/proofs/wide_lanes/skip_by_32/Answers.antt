-- `Skipping` holds throughout, and each way out of the loop leaves no zeros to skip in a full window.
use Rattle.std.proofs.Common.{◌∙◌, sym, arith}
use Rattle.std.proofs.lemmas.Bool.{false≢true}
use Rattle.atoi_lanes.proofs.lemmas.Skipping.{Skipping-none, Skipping-inside, Skipping-next, Skipping-reached, Skipping-offset}
use Rattle.atoi_lanes.proofs.wide_lanes.skip_by_32.Goals as goal

pub loop-window-init : goal.loop-window-init
loop-window-init c = (omega arith, Skipping-none _ _ _ c.window_32-window.ensures.reading)

pub slice_bounds-window_32-count : goal.slice_bounds-window_32-count
slice_bounds-window_32-count c = Skipping-inside c.loop-window.invariant.1

pub slice_bounds-window_32-start : goal.slice_bounds-window_32-start
slice_bounds-window_32-start c = Skipping-inside c.loop-window.invariant.1

pub loop-window-preserved : goal.loop-window-preserved
loop-window-preserved c =
    let next = c.window_32-window-in-loop-window in
    let so_far = c.loop-window.invariant in
    let after = Skipping-next so_far.1 next.result c.loop-window-test.true
    c.if-window-eq32.true c.if-window-gt0.true next.ensures.reading in
    (omega (arith, after.0, next.ensures.one_step, so_far.0), after.1)

pub returns-else-window-gt0-clause-reached : goal.returns-else-window-gt0-clause-reached
returns-else-window-gt0-clause-reached c = Skipping-reached c.loop-window.invariant.1 (λ _ _. omega (arith, c.if-window-gt0.false))

pub returns-else-window-gt0-clause-offset : goal.returns-else-window-gt0-clause-offset
returns-else-window-gt0-clause-offset c = Skipping-offset c.loop-window.invariant.1 (λ _ _. omega (arith, c.if-window-gt0.false))

pub returns-else-window-eq32-clause-reached : goal.returns-else-window-eq32-clause-reached
returns-else-window-eq32-clause-reached c = Skipping-reached c.loop-window.invariant.1 (λ _ full. absurd (c.if-window-eq32.false full))

pub returns-else-window-eq32-clause-offset : goal.returns-else-window-eq32-clause-offset
returns-else-window-eq32-clause-offset c = Skipping-offset c.loop-window.invariant.1 (λ _ full. absurd (c.if-window-eq32.false full))

pub returns-after-loop-window-clause-reached : goal.returns-after-loop-window-clause-reached
returns-after-loop-window-clause-reached c =
    Skipping-reached c.loop-window.invariant.1 (λ on. absurd (false≢true (sym c.loop-window-test.false ∙ on)))
