-- 32 zeros for each window so far, or all, precede `at`. These windows are full of digits.
use Rattle.std.proofs.Common.{◌≡◌, ◌+◌, ◌-◌, ◌*◌, ◌/◌, ◌≤◌, min, length}
use Rattle.atoi_core.specs.Digit.{decimal_table}
use Rattle.atoi_core.specs.Run.{run_len, zeros}
use Rattle.atoi_fast.proofs.vectors.wide.window_after_zeros.Given as goal

abbrev pub invariant-loop-window : goal.invariant-loop-window
invariant-loop-window l = record {
  within : l.at ≤ length l.s;
  loads : l.steps ≡ l.initial.steps + (l.at + 31) / 32;
  place : l.at ≡ min (zeros decimal_table l.s) ((l.at + 31) / 32 * 32);
  full : (l.at + 31) / 32 * 32 ≤ run_len decimal_table l.s;
}

abbrev pub decreases-loop-window : goal.decreases-loop-window
decreases-loop-window l = length l.s - l.at
