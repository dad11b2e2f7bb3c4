-- What was read stands after what was read before.
use Rattle.std.proofs.Common.{◌≤◌, ◌-◌}
use Rattle.atoi_column.specs.Reads.{FillsMore}
use Rattle.atoi_column.proofs.fields.Fields.read_part.Given as goal

abbrev pub invariant-loop-at : goal.invariant-loop-at
invariant-loop-at g l = record {
  after : l.from ≤ l.at;
  within : l.at ≤ l.end;
  fills : FillsMore g.T.Number.int_type g.T.Number.number l.initial.fields l.fields l.initial.values l.values l.from (l.at - l.from);
}

abbrev pub decreases-loop-at : goal.decreases-loop-at
decreases-loop-at g l = l.end - l.at
