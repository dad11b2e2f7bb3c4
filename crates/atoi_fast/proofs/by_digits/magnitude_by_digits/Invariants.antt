-- The bytes so far are digits that spell `number`, which is within the bound.
use Rattle.std.proofs.Common.{◌≡◌, ◌≤◌, ◌+◌, ◌-◌, length, take, drop}
use Rattle.atoi_core.specs.Digit.{decimal_table}
use Rattle.atoi_core.specs.Run.{run_len, value}
use Rattle.atoi_fast.proofs.by_digits.magnitude_by_digits.Given as goal

abbrev pub invariant-loop-len : goal.invariant-loop-len
invariant-loop-len l = record {
  within : l.len ≤ length l.s;
  digits : l.len + run_len decimal_table (drop l.len l.s) ≡ run_len decimal_table l.s;
  number : l.number ≡ value decimal_table (take l.len l.s);
  bound : l.number ≤ l.bound;
}

abbrev pub decreases-loop-len : goal.decreases-loop-len
decreases-loop-len l = length l.s - l.len
