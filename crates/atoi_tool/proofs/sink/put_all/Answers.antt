use Rattle.std.proofs.Common.{arith, ◌≤◌, drop, length, length-drop}
use Rattle.std.proofs.lemmas.Grind.{common_steps}
use Rattle.std.proofs.lemmas.List.{take_rest}
use Rattle.atoi_tool.proofs.lemmas.Appended.{Appends-take}
use Rattle.atoi_tool.proofs.sink.put_all.Goals as goal

pub loop-done-preserved : goal.loop-done-preserved
loop-done-preserved g c =
    let rest = take_rest c.args.bytes.now c.loop-done.done in
    let taken : c.in_ok-done.field-0 ≤ length (drop c.loop-done.done c.args.bytes.now) = rw rest at c.in_ok-done.ensures.within in
    record {
      within = omega (arith, length-drop c.loop-done.done c.args.bytes.now);
      put = Appends-take _ (g.S.Sink.contents c.loop-done.output) _ c.loop-done.done c.in_ok-done.field-0 c.args.bytes.now
          c.loop-done.invariant.put (rw rest at c.in_ok-done.ensures.bytes);
      failures = grind (arith, common_steps);
    }
