-- The answer to a *body*, the slice after its sign: a *magnitude*, the value without its sign, or
-- the first reason to refuse it.
use Rattle.std.specs.Prelude.{◌≡◌, ℕ, ◌+◌, ◌-◌, ◌*◌, ◌/◌, ◌^◌, ◌<◌, ◌≤◌, min, Bool, true, false, not, ◌==◌, nat_lt, if◌then◌else◌, List, length, drop, Option, Some, None, Result, Ok, Err}
use Rattle.atoi_core.specs.Digit.{Table}
use Rattle.atoi_core.specs.Run.{run_len, run, zeros, value}
use Rattle.atoi_core.specs.Refusal.{Refusal, empty, size, overflow, invalid64, invalid128}

-- Width classes: at most 32 bits, 64 bits, 128 bits.
pub data Class : Type 0 where
  narrow : Class
  wide64 : Class
  wide128 : Class

-- The whole slice, or the number at its start.
pub data Extent : Type 0 where
  whole : Extent
  prefix : Extent

-- The number has exactly `limit` decimal digits.
abbrev pub HasDigits : ℕ → ℕ → Type 0
HasDigits limit number = (10 ^ (limit - 1) ≤ number) × (number < 10 ^ limit)

-- A bound of 64 bits, which has `limit` digits.
pub record IsBound64 (limit bound : ℕ) : Type 0 where
  pub low : 17 ≤ limit
  pub high : limit ≤ 20
  pub digits : HasDigits limit bound

-- What holds of the largest magnitude in range, for a type of these bits with this limit of digits.
pub record IsBound (bits limit bound : ℕ) : Type 0 where
  pub narrow_low : bits ≤ 32 → 9 ≤ bound
  pub narrow_high : bits ≤ 32 → bound ≤ 4294967295
  pub fits_64 : bits ≡ 64 → bound < 2 ^ 64
  pub digits : 32 < bits → HasDigits limit bound

-- How many leading zeros are skipped.
abbrev pub skipped_zeros : Table → Bool → List ℕ → ℕ
skipped_zeros table skip body = if skip then zeros table body else 0

-- *Significant* digits follow the skipped zeros: at most `limit`, and `size` counts up to `cap`. An
-- `overflow` leaves out `dropped` zeros.
pub record Rule : Type 0 where
  pub limit : Option ℕ
  pub cap : ℕ
  pub dropped : ℕ

-- For each class, extent and flag. A narrow prefix drops its zeros by blocks of 16 bytes, and all
-- if their last block is full of digits.
abbrev pub rule_of : Class → Extent → Bool → (limit digits skipped : ℕ) → Rule
rule_of narrow whole skip limit digits skipped = record { limit = None; cap = 0; dropped = 0 }
rule_of narrow prefix false limit digits skipped = record { limit = Some 16; cap = 17; dropped = 0 }
rule_of narrow prefix true limit digits skipped =
    record { limit = None; cap = 0; dropped = if nat_lt (skipped / 16) (digits / 16) then skipped else 16 * (skipped / 16) }
rule_of wide64 extent skip limit digits skipped = record { limit = Some limit; cap = 24; dropped = skipped }
rule_of wide128 extent skip limit digits skipped = record { limit = Some limit; cap = 40; dropped = skipped }

-- There is a limit, and it is passed.
abbrev pub is_above : Option ℕ → ℕ → Bool
is_above None significant = false
is_above (Some limit) significant = nat_lt limit significant

-- A whole body has another byte after its digits.
abbrev pub leaves_rest : Extent → ℕ → ℕ → Bool
leaves_rest whole digits length = not (digits == length)
leaves_rest prefix digits length = false

-- The error of a byte that is no digit.
abbrev pub invalid : Class → ℕ → ℕ → List ℕ → Refusal
invalid wide128 number index body = invalid128 number index body
invalid class number index body = invalid64 number index body

-- The first reason: no digit, too many, out of range, or for a whole body another byte.
unfoldable pub refusal : Table → Class → (bound limit : ℕ) → Extent → Bool → List ℕ → Option Refusal
refusal table class bound limit extent skip body =
    let digits = run_len table body in
    let skipped = skipped_zeros table skip body in
    let significant = digits - skipped in
    let number = value table (run table body) in
    let rule = rule_of class extent skip limit digits skipped in
    if digits == 0 then Some empty
    else (if is_above rule.limit significant then Some (size (skipped + min significant rule.cap) (drop skipped body))
    else (if nat_lt bound number then Some (overflow (drop rule.dropped body))
    else (if leaves_rest extent digits (length body) then Some (invalid class number digits body)
    else None)))

abbrev pub unless_refused : {A : Type 0} → Option Refusal → A → Result A Refusal
unless_refused None answer = Ok answer
unless_refused (Some reason) answer = Err reason

-- The value of a whole body's digits.
abbrev pub whole_magnitude : Table → Class → (bound limit : ℕ) → Bool → List ℕ → Result ℕ Refusal
whole_magnitude table class bound limit skip body =
    unless_refused (refusal table class bound limit whole skip body) (value table (run table body))

-- The value of the digits at a body's start, and their number.
abbrev pub prefix_magnitude : Table → Class → (bound limit : ℕ) → Bool → List ℕ → Result (ℕ × ℕ) Refusal
prefix_magnitude table class bound limit skip body =
    unless_refused (refusal table class bound limit prefix skip body) (value table (run table body), run_len table body)
