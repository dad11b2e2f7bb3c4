-- A slice in the lanes of a vector, and the window that lanes show.
use Rattle.std.specs.Prelude.{ℕ, ◌==◌, if◌then◌else◌, List, ◌++◌, take, replicate}
use Rattle.atoi_core.specs.Digit.{decimal_table}
use Rattle.atoi_core.specs.Run.{run_len, run, zeros, value}
use Rattle.atoi_core.specs.declared.engine.window.Window.{Window}

-- The first `size` bytes; missing ones are 0.
abbrev pub padded_start : ℕ → List ℕ → List ℕ
padded_start size s = take size (s ++ replicate size 0)

-- The lanes' run; its zeros, if it has `size` digits.
abbrev pub lane_window : ℕ → List ℕ → Window
lane_window size lanes =
    record {
      len = run_len decimal_table lanes;
      zeroes = if run_len decimal_table lanes == size then zeros decimal_table lanes else 0;
      number = value decimal_table (run decimal_table lanes);
    }
