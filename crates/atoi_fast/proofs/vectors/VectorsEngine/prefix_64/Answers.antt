-- One vector decides with fewer than 16 digits, or what follows it.
use Rattle.std.proofs.Common.{◌≡◌, ◌<◌, true, refl, ◌∙◌, sym, arith}
use Rattle.atoi_core.specs.Digit.{decimal_table}
use Rattle.atoi_core.specs.Magnitude.{wide64}
use Rattle.atoi_core.specs.Run.{zeros}
use Rattle.atoi_core.proofs.lemmas.Readings.{within}
use Rattle.atoi_fast.proofs.lemmas.LaneWindows.{full_lanes, reading_of_lanes}
use Rattle.atoi_fast.proofs.lemmas.Unskipped.{unskipped}
use Rattle.atoi_fast.proofs.lemmas.VectorAnswers.{ended_in_16, first_decides, one_load, reading_of_window}
use Rattle.atoi_fast.proofs.vectors.VectorsEngine.prefix_64.Goals as goal

pub returns-then-mask-ne0 : goal.returns-then-mask-ne0
returns-then-mask-ne0 c =
    let mask = c.non_digits-mask.ensures in
    let some : 0 < c.non_digits-mask.result = omega (arith, c.if-mask-ne0.true) in
    let first = reading_of_lanes c.args.s.now c.load_lanes-first.result _ _
    c.load_lanes-first.ensures (mask.some some) c.sum_lanes.ensures in
    record {
      answer = c.found_or_empty.ensures
          ∙ ended_in_16 wide64 c.args.bound c.args.limit (omega (arith, c.requires.bound.high))
          (omega (arith, c.requires.bound.low)) c.requires.bound.digits c.args.skip first
          (omega (arith, mask.some some, mask.fewer some));
      loads = one_load first (omega (arith, mask.some some, mask.fewer some)) c.tick.ensures (omega arith);
    }

pub answer_after_16-requires : goal.answer_after_16-requires
answer_after_16-requires c =
    let known = full_lanes c.args.s.now _ c.load_lanes-first.ensures
    (c.non_digits-mask.ensures.none c.if-mask-ne0.false) c.sum_lanes-then-s-ge16.ensures in
    record { bound = c.requires.bound; full = known.0; number = known.1 }

pub returns-then-s-ge16-clause-answer : goal.returns-then-s-ge16-clause-answer
returns-then-s-ge16-clause-answer c =
    let none : c.args.skip ≡ true → zeros decimal_table c.args.s.now ≡ 0 =
    elim c.else-skip.branch [
      | goal.else-skip-via-then-skip+else-s-eq48 w ↦ λ _. first_decides c.args.s.now w.if-s-eq48.false
      | goal.else-skip-via-else-skip w ↦ λ on. absurd (cc (on, w.if-skip.false))
    ] in
    c.answer_after_16.ensures.answer
    ∙ sym (unskipped decimal_table wide64 c.args.bound c.args.limit c.args.skip c.args.s.now (λ _. refl) none)

pub returns : goal.returns
returns c =
    let only = reading_of_window c.window_below_16-only.ensures in
    record {
      answer = c.found_or_empty-2.ensures
          ∙ ended_in_16 wide64 c.args.bound c.args.limit (omega (arith, c.requires.bound.high))
          (omega (arith, c.requires.bound.low)) c.requires.bound.digits c.args.skip only
          (omega (arith, within only, c.if-s-ge16.false));
      loads = one_load only (omega (arith, within only, c.if-s-ge16.false)) c.tick.ensures (omega arith);
    }
