-- The digits end at another byte, or at the end.
use Rattle.std.proofs.Common.{◌<◌, length, false, sym, ◌∙◌, arith}
use Rattle.std.proofs.lemmas.Bool.Decides.{nat_tests}
use Rattle.atoi_core.specs.Digit.{decimal_table}
use Rattle.atoi_core.proofs.lemmas.LoopAnswers.{narrow_whole_rest, narrow_whole_end}
use Rattle.atoi_core.proofs.lemmas.Runs.{run_more, value_more}
use Rattle.atoi_core.proofs.engine.plain.narrow_whole.Goals as goal

pub returns-in_default : goal.returns-in_default
returns-in_default c = record {
  answer = narrow_whole_rest decimal_table c.args.bound 0 false c.args.s.now c.loop-at.at c.loop-at.number (omega arith) c.loop-at-test.true
      (sym c.digit_value.ensures ∙ c.in_default.is) c.loop-at.invariant.digits c.loop-at.invariant.number c.loop-at.invariant.bound;
}

pub loop-at-preserved : goal.loop-at-preserved
loop-at-preserved c =
    let digit = sym c.digit_value.ensures ∙ c.in-Some.is in search (arith, run_more, value_more, digit)

pub returns-else-is_empty : goal.returns-else-is_empty
returns-else-is_empty c =
    let some : 0 < length c.args.s.now = grind (arith, nat_tests, c.if-is_empty.false, c.is_empty.ensures) in
    record {
      answer = narrow_whole_end decimal_table c.args.bound 0 false c.args.s.now c.loop-at.at c.loop-at.number some
          c.loop-at.auto.at-end c.loop-at-test.false c.loop-at.invariant.digits c.loop-at.invariant.number c.loop-at.invariant.bound;
    }
