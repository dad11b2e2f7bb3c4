-- A first window without zeros to skip decides, if full with the bytes after it.
use Rattle.std.proofs.Common.{◌≡◌, ◌⊎◌, ◌≤◌, true, false, inl, inr, sym, refl, ◌∙◌, ◌<◌, arith}
use Rattle.std.proofs.lemmas.List.Sums.{prefix_len-le-length}
use Rattle.atoi_core.specs.Digit.{decimal_table, is_digit}
use Rattle.atoi_core.specs.Magnitude.{wide64}
use Rattle.atoi_core.proofs.lemmas.Runs.{decimal_below_ten}
use Rattle.atoi_core.proofs.lemmas.Windows.{Skipped, Skipped-at_once, Skipped-loads, Skipped-short}
use Rattle.atoi_core.proofs.lemmas.LoopAnswers.{answers_short}
use Rattle.atoi_fast.proofs.lemmas.Unskipped.{unskipped}
use Rattle.atoi_fast.proofs.swar.SwarEngine.prefix_64.Goals as goal
use Rattle.atoi_fast.proofs.swar.SwarEngine.prefix_64.Goals.{After-window-first}

-- What holds if zeros are not skipped, or the first window reports none.
last : (c : After-window-first) → (c.args.skip ≡ true × c.window-first.result.zeroes ≤ 0) ⊎ (c.args.skip ≡ false)
    → Skipped decimal_table c.args.skip c.args.s.now 0 c.args.steps.now c.window-first.new.steps c.window-first.result
last c stops =
    Skipped-at_once decimal_below_ten c.args.skip c.args.s.now c.window-first.ensures.window c.window-first.ensures.one_step
    (elim stops [ inl h ↦ inr (h.0, omega (arith, h.1)) | inr h ↦ inl h ])

pub returns-then-first-lt16 : goal.returns-then-first-lt16
returns-then-first-lt16 c =
    let after_skip = last (goal.at.returns-then-first-lt16 c).After-window-first c.else-skip.either in
    record {
      answer = c.found_or_empty.ensures
          ∙ answers_short wide64 _ _ {len = c.window-first.result.len} (omega arith)
          after_skip c.if-first-lt16.true (omega arith) c.requires.bound.digits refl (omega arith);
      loads = Skipped-loads after_skip 0 (omega arith) (omega arith);
    }

pub answer_after_16-requires : goal.answer_after_16-requires
answer_after_16-requires c =
    let after_skip = last (goal.at.answer_after_16-requires c).After-window-first c.else-skip.either in
    let len : c.window-first.result.len ≡ 16 = omega (arith, after_skip.window.len_is) in
    record {
      bound = c.requires.bound;
      full = omega (arith, after_skip.window.len_is);
      number = rw len at after_skip.window.number_is;
    }

pub returns-then-s-ge16 : goal.returns-then-s-ge16
returns-then-s-ge16 c =
    let after_skip = last (goal.at.returns-then-s-ge16 c).After-window-first c.else-skip.either in
    record {
      answer = c.answer_after_16.ensures.answer
          ∙ sym (unskipped decimal_table wide64 c.args.bound c.args.limit c.args.skip c.args.s.now (λ _. refl)
          (λ on. sym (after_skip.full on (omega (arith, after_skip.window.len_is)))));
      loads = Skipped-loads after_skip 1 (omega (arith, c.answer_after_16.ensures.one_step)) (omega arith);
    }

-- After the window of a short slice.
pub returns : goal.returns
returns c =
    let after_skip = Skipped-short decimal_below_ten c.args.skip c.args.s.now c.window-only.ensures.window
    c.window-only.ensures.one_step (omega (arith, c.if-s-ge16.false)) in
    let few : c.window-only.result.len < 16 =
    omega (arith, c.if-s-ge16.false, after_skip.window.len_is, prefix_len-le-length (is_digit decimal_table) c.args.s.now) in
    record {
      answer = c.found_or_empty-2.ensures
          ∙ answers_short wide64 _ _ {len = c.window-only.result.len} (omega arith)
          after_skip few (omega arith) c.requires.bound.digits refl (omega arith);
      loads = Skipped-loads after_skip 0 (omega arith) (omega arith);
    }
