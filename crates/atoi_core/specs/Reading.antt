-- What windows report about the start of a slice, and the answer that they decide.
use Rattle.std.specs.Prelude.{◌≡◌, ℕ, ◌+◌, ◌-◌, ◌≤◌, min, Bool, true, false, ◌==◌, nat_lt, if◌then◌else◌, List, length, take, drop, Result, Ok, Err}
use Rattle.atoi_core.specs.Digit.{Table}
use Rattle.atoi_core.specs.Run.{run_len, run, zeros, value}
use Rattle.atoi_core.specs.Refusal.{Refusal, empty, size, overflow}
use Rattle.atoi_core.specs.Magnitude.{Class, prefix, rule_of, invalid}
use Rattle.atoi_core.specs.declared.engine.window.Window.{Window}

-- A window: the run of the first `count` bytes, its value, and its zeros if it is full.
abbrev pub window_of : Table → ℕ → List ℕ → Window
window_of table count s =
    let bytes = take count s in
    record {
      len = run_len table bytes;
      zeroes = if run_len table bytes == count then zeros table bytes else 0;
      number = value table (run table bytes);
    }

-- The first `count` bytes start with exactly `digits` digits, which spell `number`; `leading` of
-- them are leading zeros.
pub record Reading (table : Table) (count : ℕ) (s : List ℕ) (digits leading number : ℕ) : Type 0 where
  pub digits_are : digits ≡ run_len table (take count s)
  pub leading_are : leading ≡ zeros table (take count s)
  pub number_is : number ≡ value table (run table (take count s))

-- All bytes before index `offset` are zeros that are skipped.
pub record IsSkipped (table : Table) (skip : Bool) (s : List ℕ) (offset : ℕ) : Type 0 where
  pub zeros_only : offset ≤ zeros table s
  pub asked : skip ≡ false → offset ≡ 0

-- How many of the digits that were read are significant.
abbrev pub significant_digits : Bool → (digits leading : ℕ) → ℕ
significant_digits true digits leading = digits - leading
significant_digits false digits leading = digits

-- How many significant digits `size` counts at most.
abbrev pub cap : Class → ℕ
cap class = (rule_of class prefix true 0 0 0).cap

-- A wide class's answer to `skipped` zeros, then `significant` digits that spell `number`.
abbrev pub answer_by_digits : Class → (bound limit skipped significant number : ℕ) → List ℕ → Result (ℕ × ℕ) Refusal
answer_by_digits class bound limit skipped significant number s =
    if skipped + significant == 0 then Err empty
    else (if nat_lt limit significant then Err (size (skipped + min significant (cap class)) (drop skipped s))
    else (if nat_lt bound number then Err (overflow (drop skipped s))
    else Ok (number, skipped + significant)))

-- The answer to a whole body that has too many digits in no case, if `len` digits spell `number`.
abbrev pub decision : Class → (bound len number : ℕ) → List ℕ → Result ℕ Refusal
decision class bound len number body =
    if len == 0 then Err empty
    else (if nat_lt bound number then Err (overflow body)
    else (if len == length body then Ok number else Err (invalid class number len body)))
