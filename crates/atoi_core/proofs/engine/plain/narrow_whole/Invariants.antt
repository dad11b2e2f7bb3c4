-- The bytes so far are digits that spell `number`, which is within the bound.
use Rattle.std.proofs.Common.{◌≡◌, ◌≤◌, ◌+◌, take, drop}
use Rattle.atoi_core.specs.Digit.{decimal_table}
use Rattle.atoi_core.specs.Run.{run_len, value}
use Rattle.atoi_core.proofs.engine.plain.narrow_whole.Given as goal

abbrev pub invariant-loop-at : goal.invariant-loop-at
invariant-loop-at l = record {
  digits : l.at + run_len decimal_table (drop l.at l.s) ≡ run_len decimal_table l.s;
  number : l.number ≡ value decimal_table (take l.at l.s);
  bound : l.number ≤ l.bound;
}
