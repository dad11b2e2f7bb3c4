-- The last window decides the answer; the zeros at its start are some of its digits.
use Rattle.std.proofs.Common.{◌∙◌, arith}
use Rattle.std.proofs.lemmas.Bool.Decides.{nat_tests}
use Rattle.atoi_core.proofs.lemmas.Runs.{zeros-le}
use Rattle.atoi_lanes.proofs.lemmas.WideAnswers.{decided_64}
use Rattle.atoi_lanes.proofs.wide_lanes.prefix_64_lanes.Goals as goal

pub overflow_sub-window : goal.overflow_sub-window
overflow_sub-window c =
    (decided_64 c.args.bound c.args.limit _ _ _ _ c.if-skip.zeroes
    c.requires.bound.high c.skip_by_32-at.ensures.reached (grind (arith, nat_tests, c.if-skip.branch))).0

pub answer_64-requires : goal.answer_64-requires
answer_64-requires c = record {
  inside = (decided_64 c.args.bound c.args.limit _ _ _ _ c.if-skip.zeroes
      c.requires.bound.high c.skip_by_32-at.ensures.reached (grind (arith, nat_tests, c.if-skip.branch))).1;
}

pub returns-clause-answer : goal.returns-clause-answer
returns-clause-answer c =
    c.answer_64.ensures
    ∙ (decided_64 c.args.bound c.args.limit _ _ _ _ c.if-skip.zeroes
    c.requires.bound.high c.skip_by_32-at.ensures.reached (grind (arith, nat_tests, c.if-skip.branch))).2

pub returns-clause-loads : goal.returns-clause-loads
returns-clause-loads c = search (arith, zeros-le)
