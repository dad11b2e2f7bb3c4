-- Each part and each run goes after what was read.
use Rattle.std.proofs.Common.{refl, arith}
use Rattle.atoi_column.proofs.lemmas.Reads.{filled_none}
use Rattle.atoi_column.proofs.fields.Fields.read.Goals as goal

pub loop-read-init : goal.loop-read-init
loop-read-init g c = record {
  fills = filled_none g.T.Number.int_type g.T.Number.number c.args.self.now c.args.values.now;
  room = refl;
  some = elim c.if-self-lt-SHORT_TEXT.branch [
    | goal.then-self-lt-SHORT_TEXT w ↦ omega (arith, w.part-is)
    | goal.else-self-lt-SHORT_TEXT w ↦ omega (arith, w.part-is)
  ];
  few = elim c.if-self-lt-SHORT_TEXT.branch [
    | goal.then-self-lt-SHORT_TEXT w ↦ omega (arith, w.part-is)
    | goal.else-self-lt-SHORT_TEXT w ↦ omega (arith, w.part-is)
  ];
}

pub loop-read-preserved-then-run-lt-PART : goal.loop-read-preserved-then-run-lt-PART
loop-read-preserved-then-run-lt-PART g c =
    let found = c.read_plain-found.ensures.fills c.args.self.now c.args.values.now c.loop-read.invariant.fills in
    record {
      fills = c.read_guessed-run.ensures.fills c.args.self.now c.args.values.now found;
      room = omega (arith, c.read_guessed-run.auto.values, c.read_plain-found.auto.values, c.loop-read.invariant.room);
      some = omega (arith, c.loop-read.invariant.some);
      few = omega arith;
    }

pub loop-read-preserved : goal.loop-read-preserved
loop-read-preserved g c =
    let found = c.read_plain-found.ensures.fills c.args.self.now c.args.values.now c.loop-read.invariant.fills in
    record {
      fills = c.read_guessed-run.ensures.fills c.args.self.now c.args.values.now found;
      room = omega (arith, c.read_guessed-run.auto.values, c.read_plain-found.auto.values, c.loop-read.invariant.room);
      some = omega arith;
      few = omega arith;
    }
