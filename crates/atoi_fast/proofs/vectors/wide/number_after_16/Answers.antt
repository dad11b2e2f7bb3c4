use Rattle.std.proofs.Common.{ap, ◌∙◌, arith}
use Rattle.std.proofs.lemmas.List.Sums.{prefix_len-le-length}
use Rattle.atoi_core.specs.Digit.{decimal_table, is_digit}
use Rattle.atoi_core.specs.Run.{value}
use Rattle.atoi_fast.proofs.lemmas.LaneWindows.{last_shown}
use Rattle.atoi_fast.proofs.vectors.wide.number_after_16.Goals as goal

pub overflow_sub-more : goal.overflow_sub-more
overflow_sub-more c = omega (arith, c.requires.full, prefix_len-le-length (is_digit decimal_table) c.args.s.now)

pub returns-then-non_digits-ne0 : goal.returns-then-non_digits-ne0
returns-then-non_digits-ne0 c =
    let shown = last_shown c.args.s.now _ c.requires.full c.requires.few c.load_lanes-last.ensures in
    let fewer = c.non_digits.ensures.fewer (omega (arith, c.if-non_digits-ne0.true)) in
    omega (arith, shown.0, fewer, c.requires.full, prefix_len-le-length (is_digit decimal_table) c.args.s.now)

pub returns : goal.returns
returns c =
    let shown = last_shown c.args.s.now _ c.requires.full c.requires.few c.load_lanes-last.ensures in
    let all = c.non_digits.ensures.none c.if-non_digits-ne0.false in
    let within = prefix_len-le-length (is_digit decimal_table) c.args.s.now in
    (omega (arith, shown.0, all, c.requires.full, within), c.value_of_last_lanes.ensures ∙ ap (value decimal_table) shown.1)
