-- The digits of the window come after 32.
use Rattle.std.proofs.Common.{◌+◌, ◌*◌, ◌^◌, ◌≤◌, arith, mul-le-mul_right, pow-add}
use Rattle.atoi_core.proofs.lemmas.Runs.{decimal_below_ten}
use Rattle.atoi_core.proofs.lemmas.Windows.{shows_rest}
use Rattle.atoi_fast.proofs.swar.answer_after_32.Goals as goal

pub answer_128-requires-clause-below : goal.answer_128-requires-clause-below
answer_128-requires-clause-below c =
    let more = c.window_8-third.result.len in
    let back = shows_rest decimal_below_ten 8 c.args.s.now (c.args.skipped + 32) c.window_8-third.ensures.window in
    let whole : (c.args.high + 1) * 10 ^ more ≤ 10 ^ 32 * 10 ^ more = mul-le-mul_right (10 ^ more) (omega (arith, c.requires.below)) in
    rw pow-add (omega (arith, back.below, whole))
