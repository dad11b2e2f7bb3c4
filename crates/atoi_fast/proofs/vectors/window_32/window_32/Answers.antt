-- What the lanes count and spell is a reading of 32 bytes.
use Rattle.std.proofs.Common.{◌≡◌, ◌+◌, ◌*◌, ◌^◌, take, refl, ◌∙◌, arith}
use Rattle.std.proofs.lemmas.Bool.Decides.{nat_tests}
use Rattle.atoi_core.specs.Digit.{decimal_table}
use Rattle.atoi_core.specs.Run.{value}
use Rattle.atoi_core.proofs.lemmas.Readings.{widened, join_readings}
use Rattle.atoi_fast.proofs.lemmas.LaneWindows.{reading_of_lanes}
use Rattle.atoi_fast.proofs.vectors.window_32.window_32.Goals as goal

pub returns-then-len-lt16-clause-reading : goal.returns-then-len-lt16-clause-reading
returns-then-len-lt16-clause-reading c =
    let first = reading_of_lanes c.args.s.now c.load_lanes-first.result _ _ c.load_lanes-first.ensures c.len_lanes-len.ensures.len
    (c.from.ensures ∙ c.sum_lanes.ensures) in
    rw c.zeroes_lanes.ensures.zeroes (widened first c.if-len-lt16.true (omega arith))

pub returns-clause-reading : goal.returns-clause-reading
returns-clause-reading c =
    let s = c.args.s.now in
    let number : c.if-more-eq0.number
    ≡ c.sum_lanes-high.result * 10 ^ c.len_lanes-more.result
    + value decimal_table (take c.len_lanes-more.result c.load_second-second.result) =
    grind (arith, nat_tests, c.if-more-eq0.branch) in
    let first = reading_of_lanes s c.load_lanes-first.result 16 _ c.load_lanes-first.ensures
    (omega (arith, c.len_lanes-len.ensures, c.if-len-lt16.false)) refl in
    let second = reading_of_lanes _ c.load_second-second.result _ _ c.load_second-second.ensures c.len_lanes-more.ensures.len refl in
    rw (c.zeroes_of_both.ensures, number, c.sum_lanes-high.ensures) (join_readings first second)
