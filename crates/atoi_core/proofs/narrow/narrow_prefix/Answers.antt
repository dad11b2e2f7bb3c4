-- A first window without zeros to skip decides.
use Rattle.std.proofs.Common.{◌≡◌, ◌+◌, ◌≤◌, false, ◌||◌, nat_lt, min, ap, if◌then◌else◌, inl, inr, ◌∙◌, arith}
use Rattle.std.proofs.lemmas.Bool.Decides.{nat_tests}
use Rattle.atoi_core.specs.declared.engine.window.Window.{Window}
use Rattle.atoi_core.specs.Digit.{is_digit}
use Rattle.atoi_core.specs.Run.{run_len}
use Rattle.atoi_core.proofs.lemmas.Runs.{prefix_len-take}
use Rattle.atoi_core.proofs.lemmas.Windows.{Skipped, Skipped-at_once, Skipped-first, Skipped-one}
use Rattle.atoi_core.proofs.lemmas.LoopAnswers.{narrow_after_skip, answers_empty}
use Rattle.atoi_core.proofs.narrow.narrow_prefix.Goals as goal
use Rattle.atoi_core.proofs.narrow.narrow_prefix.Goals.{After-answer_at, else-window-eq16-via-then-window-eq16+else-is_too_long, else-window-eq16-via-else-window-eq16}

pub returns-then-window-eq0-clause-answer : goal.returns-then-window-eq0-clause-answer
returns-then-window-eq0-clause-answer g c =
    let after_skip = Skipped-first g.met.E.Engine.below_ten c.args.skip c.args.s.now
    c.window-window.ensures.window c.window-window.ensures.one_step (omega arith) in
    answers_empty _ _ _ after_skip (omega arith)

-- The first window has all digits, or a second one is loaded and has no digit.
second : (g : _) (c : After-answer_at g) →
    (c.else-window-eq16.steps
    ≡ c.window-window.new.steps + (if c.args.skip || nat_lt (run_len g.E.Engine.table c.args.s.now) 16 then 0 else 1))
    × (c.args.skip ≡ false → run_len g.E.Engine.table c.args.s.now ≤ 16)
second g c =
    let seen : c.window-window.result.len ≡ min 16 (run_len g.E.Engine.table c.args.s.now) =
    ap (λ (w : Window). w.len) c.window-window.ensures.window ∙ prefix_len-take (is_digit g.E.Engine.table) 16 c.args.s.now in
    elim c.else-window-eq16.branch [
      | else-window-eq16-via-then-window-eq16+else-is_too_long w ↦ (
        grind (arith, nat_tests, w.steps-is, w.is_too_long.ensures.loads, w.if-window-eq16.true),
        λ off. grind (arith, nat_tests, w.if-is_too_long.ensures.answer, off),
      )
      | else-window-eq16-via-else-window-eq16 w ↦
          (grind (arith, nat_tests, w.steps-is, w.if-window-eq16.false), λ _. grind (arith, nat_tests, w.if-window-eq16.false))
    ]

last : (g : _) (c : After-answer_at g)
    → Skipped g.E.Engine.table c.args.skip c.args.s.now 0 c.args.steps.now c.window-window.new.steps c.window-window.result
last g c =
    Skipped-at_once g.met.E.Engine.below_ten c.args.skip c.args.s.now
    c.window-window.ensures.window c.window-window.ensures.one_step
    (elim c.else-skip.either [ inl h ↦ inr (h.0, omega (arith, h.1)) | inr h ↦ inl h ])

pub returns-else-window-eq16-clause-answer : goal.returns-else-window-eq16-clause-answer
returns-else-window-eq16-clause-answer g c =
    c.answer_at.ensures ∙ narrow_after_skip (last g c) (second g c).1 _ _ c.requires.high (omega arith)

pub returns-else-window-eq16-clause-loads : goal.returns-else-window-eq16-clause-loads
returns-else-window-eq16-clause-loads g c = Skipped-one c.args.skip (last g c) c.window-window.ensures.one_step (second g c).0

pub returns-else-window-eq16-clause-unskipped : goal.returns-else-window-eq16-clause-unskipped
returns-else-window-eq16-clause-unskipped g c = λ off. grind (arith, nat_tests, (second g c).0, c.window-window.ensures.one_step, off)
