-- All sixteen lanes are digits if and only if all bytes are.
use Rattle.std.proofs.Common.{length, ap, sym, ◌≡◌, ◌∙◌, arith}
use Rattle.std.proofs.lemmas.List.Sums.{prefix_len-le-length}
use Rattle.atoi_core.specs.Digit.{decimal_table, is_digit}
use Rattle.atoi_core.specs.Run.{run_len}
use Rattle.atoi_fast.proofs.lemmas.Ends.{ends_run, values_of_8_to_15}
use Rattle.atoi_fast.proofs.vectors.bytes.number_of_8_to_15.Goals as goal
use Rattle.atoi_fast.proofs.vectors.bytes.number_of_8_to_15.Goals.{After-to_end}

pub returns-then-non_digits-ne0-clause-none : goal.returns-then-non_digits-ne0-clause-none
returns-then-non_digits-ne0-clause-none c = λ _.
    let s = c.args.s.now in
    let lanes = ap (run_len decimal_table) c.ends-bytes.ensures in
    let all = (ends_run s c.requires.enough c.requires.few).1 in
    grind (arith, all, lanes, c.non_digits.ensures.fewer (omega arith), prefix_len-le-length (is_digit decimal_table) s)

-- All bytes are digits.
digits : (c : After-to_end) → run_len decimal_table c.args.s.now ≡ length c.args.s.now
digits c =
    (ends_run c.args.s.now c.requires.enough c.requires.few).0
    (sym (ap (run_len decimal_table) c.ends-bytes.ensures) ∙ c.non_digits.ensures.none c.if-non_digits-ne0.false)

pub value_of_lanes-requires : goal.value_of_lanes-requires
value_of_lanes-requires c = (values_of_8_to_15 _ c.requires.enough c.requires.few (digits c) _ _ c.ends-bytes.ensures c.to_end.ensures).1

pub returns-clause-some : goal.returns-clause-some
returns-clause-some c =
    let all = digits (goal.at.returns-clause-some c).After-to_end in
    (all, c.value_of_lanes.ensures ∙ (values_of_8_to_15 _ c.requires.enough c.requires.few all _ _ c.ends-bytes.ensures c.to_end.ensures).0)
