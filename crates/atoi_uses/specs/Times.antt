-- Times of day such as `7:30:15.25`.
use Rattle.std.specs.Prelude.{◌≡◌, ◌<◌, ◌≤◌, ◌-◌, ◌*◌, ◌^◌, false, List, [], ◌∷◌, ℕ, ◌++◌, length, pos, codes}
use Rattle.std.specs.Str.Parse.{IsNumeral, digits_value}
use Rattle.atoi_simd.specs.IntType.{u8_type}
use Rattle.atoi_simd.specs.Text.{DigitsWrite}
use Rattle.atoi_uses.specs.declared.times.Time.{Time}

-- One or two digits, a colon, and the rest.
pub record HasHour (text : List ℕ) (hour : ℕ) (rest : List ℕ) : Type 0 where
  pub digits : List ℕ
  pub parts : text ≡ digits ++ (codes ":" ++ rest)
  pub at_most_two : length digits ≤ 2
  pub hour_is : DigitsWrite u8_type false digits (pos hour)

-- One to nine digits, which are billionths if zeros follow them.
pub record AreBillionths (digits : List ℕ) (number : ℕ) : Type 0 where
  pub numeral : IsNumeral 10 digits
  pub at_most_nine : length digits ≤ 9
  pub number_is : number ≡ digits_value 10 digits * 10 ^ (9 - length digits)

-- Nothing, or a point and such digits.
abbrev pub IsFraction : (text : List ℕ) → (nanoseconds : ℕ) → Type 0
IsFraction [] nanoseconds = nanoseconds ≡ 0
IsFraction (point ∷ digits) nanoseconds = (point ≡ 46) × AreBillionths digits nanoseconds

-- A second of two digits, and perhaps a fraction.
pub record HasSeconds (text : List ℕ) (second nanosecond : ℕ) : Type 0 where
  pub digits : List ℕ
  pub fraction : List ℕ
  pub parts : text ≡ digits ++ fraction
  pub two : length digits ≡ 2
  pub second_is : DigitsWrite u8_type false digits (pos second)
  pub fraction_is : IsFraction fraction nanosecond

-- The same, as a word that proofs of callers do not open.
unfoldable pub AreSeconds : (text : List ℕ) → (second nanosecond : ℕ) → Type 0
AreSeconds text second nanosecond = HasSeconds text second nanosecond

-- An hour of one or two digits, a minute of two, and the seconds, with colons between them.
pub record IsTime (text : List ℕ) (time : Time) : Type 0 where
  pub hour : List ℕ
  pub minute : List ℕ
  pub seconds : List ℕ
  pub parts : text ≡ hour ++ (codes ":" ++ (minute ++ (codes ":" ++ seconds)))
  pub at_most_two : length hour ≤ 2
  pub two : length minute ≡ 2
  pub hour_is : DigitsWrite u8_type false hour (pos time.hour)
  pub minute_is : DigitsWrite u8_type false minute (pos time.minute)
  pub seconds_are : AreSeconds seconds time.second time.nanosecond
  pub hour_fits : time.hour < 24
  pub minute_fits : time.minute < 60
  pub second_fits : time.second < 60
