-- Durations such as `1h30m15s`.
use Rattle.std.specs.Prelude.{◌≡◌, ℕ, ◌+◌, ◌*◌, ◌^◌, ◌≤◌, min, List, ◌++◌, take, drop, codes}
use Rattle.std.specs.Str.Parse.{AllDigits, IsNumeral, digits_value}
use Rattle.atoi_simd.specs.Text.{BeginsWithDigit}
use Rattle.atoi_uses.specs.declared.durations.DurationError.{DurationError}
use Rattle.atoi_uses.specs.declared.durations.DurationError.TheVariants.{NoDuration, TooLarge}

-- Three numbers of any length, each with its unit after it, and nothing else.
pub record HasParts (text hours minutes seconds : List ℕ) : Type 0 where
  pub parts : text ≡ hours ++ (codes "h" ++ (minutes ++ (codes "m" ++ (seconds ++ codes "s"))))
  pub hours_numeral : IsNumeral 10 hours
  pub minutes_numeral : IsNumeral 10 minutes
  pub seconds_numeral : IsNumeral 10 seconds

-- How many seconds these are.
abbrev pub total_of : (hours minutes seconds : List ℕ) → ℕ
total_of hours minutes seconds =
    digits_value 10 hours * 3600 + digits_value 10 minutes * 60 + digits_value 10 seconds

-- A duration of `total` seconds.
abbrev pub IsDuration : List ℕ → (total : ℕ) → Type 0
IsDuration text total =
    (hours minutes seconds : List ℕ)
    × (HasParts text hours minutes seconds × (total ≡ total_of hours minutes seconds))

-- No duration, or more seconds than a `u64` holds.
abbrev pub IsNoDuration : List ℕ → DurationError → Type 0
IsNoDuration text NoDuration = (any : ℕ) → ¬ IsDuration text any
IsNoDuration text TooLarge =
    (hours minutes seconds : List ℕ)
    × (HasParts text hours minutes seconds × (2 ^ 64 ≤ total_of hours minutes seconds))

-- The number that digits write, at most 2^64.
abbrev pub capped : (digits : List ℕ) → ℕ
capped digits = min (digits_value 10 digits) (2 ^ 64)

-- The first `count` bytes are all leading digits; `number` is theirs, at most 2^64.
pub record AreLeadingDigits (text : List ℕ) (number count : ℕ) : Type 0 where
  pub digits : AllDigits 10 (take count text)
  pub ends : ¬ BeginsWithDigit (drop count text)
  pub number_is : number ≡ capped (take count text)
