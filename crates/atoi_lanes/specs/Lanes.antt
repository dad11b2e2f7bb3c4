-- Lanes, and windows read from them.
use Rattle.std.specs.Prelude.{◌≡◌, ℕ, ◌+◌, ◌≤◌, Bool, true, List, length, drop}
use Rattle.atoi_core.specs.Digit.{decimal_table}
use Rattle.atoi_core.specs.Reading.{Reading, IsSkipped}
use Rattle.atoi_lanes.specs.declared.window_32.Window32.{Window32}

-- 32 bytes after skipped zeros; if all are digits, the first is no zero to skip.
pub record ReadsAfterZeros (skip : Bool) (s : List ℕ) (at : ℕ) (w : Window32) : Type 0 where
  pub skipped : IsSkipped decimal_table skip s at
  pub reading : Reading decimal_table 32 (drop at s) w.len w.zeroes w.number
  pub within : at + w.len ≤ length s
  pub ends : skip ≡ true → 32 ≤ w.len → w.zeroes ≡ 0
