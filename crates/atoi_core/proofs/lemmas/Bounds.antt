-- Bounds of types, and limits on digits.
use Rattle.std.proofs.Common.{◌≡◌, ◌⊎◌, ℕ, ◌+◌, ◌-◌, ◌^◌, ◌<◌, ◌≤◌, Bool, true, false, cond, List, Option, arith, lt_of_le_of_lt}
use Rattle.std.proofs.Math.Nat.{pow-le-pow_right}
use Rattle.std.proofs.lemmas.Bool.Decides.{nat_tests}
use Rattle.atoi_core.specs.Digit.{Table}
use Rattle.atoi_core.specs.Run.{run_len, run, zeros, value}
use Rattle.atoi_core.specs.Magnitude.{Class, narrow, whole, prefix, is_above}
use Rattle.atoi_core.specs.IntType.{IntType, IsSized, is_size, greatest_of, class_of, bound_of, limit_of}
use Rattle.atoi_core.specs.Laws.{HasLimitOfWhole}
use Rattle.atoi_core.proofs.lemmas.Runs.{value-ge}
use Rattle.atoi_core.proofs.lemmas.Refusals.{limit_at, significant_len}

-- ---- Limits on digits

pub short_enough : (class : Class) (skip : Bool) (limit count : ℕ) → count ≤ limit
    → is_above (limit_at class whole skip limit) count ≡ false
short_enough class skip limit count h = grind (arith, nat_tests)

pub shorter : (limit : Option ℕ) (count less : ℕ) → less ≤ count → is_above limit count ≡ false → is_above limit less ≡ false
shorter limit count less h e = grind (arith, nat_tests)

pub limit_of_whole : (class : Class) (skip : Bool) (limit : ℕ) → limit_at class whole skip limit ≡ limit_at class whole false limit
limit_of_whole class skip limit = grind (arith, nat_tests)

pub long_as_whole : (class : Class) (skip : Bool) (limit count : ℕ) → is_above (limit_at class prefix skip limit) count ≡ false
    → is_above (limit_at class whole skip limit) count ≡ false
long_as_whole class skip limit count h = grind (arith, nat_tests)

pub limit_of_prefix : (int : IntType) (skip : Bool) (limit : ℕ) → HasLimitOfWhole int skip
    → limit_at (class_of int) prefix skip limit ≡ limit_at (class_of int) whole skip limit
limit_of_prefix int skip limit h = grind (arith, nat_tests)

magnitude_below : (limit bits : ℕ) (signed minus : Bool) → greatest_of bits true + 1 < 10 ^ limit → greatest_of bits false + 1 < 10 ^ limit
    → cond minus (greatest_of bits signed + 1) (greatest_of bits signed) < 10 ^ limit
magnitude_below limit bits signed minus p q = grind (arith, nat_tests)

bound-64 : (signed minus : Bool) → cond minus (greatest_of 64 signed + 1) (greatest_of 64 signed) < 10 ^ cond signed 19 20
bound-64 signed minus = grind (arith, nat_tests)

sizes : (bits : ℕ) → is_size bits ≡ true
    → (bits ≡ 8) ⊎ ((bits ≡ 16) ⊎ ((bits ≡ 32) ⊎ ((bits ≡ 64) ⊎ (bits ≡ 128))))
sizes bits size = grind (arith, nat_tests)

pub bound-limit : (int : IntType) → IsSized int → (minus : Bool)
    → (class_of int ≡ narrow) ⊎ (bound_of int minus < 10 ^ limit_of int)
bound-limit int sized minus = search (arith, sizes, bound-64, magnitude_below)

-- A number of 15 digits is in the range of each wide type.
pub bound-least : (int : IntType) → IsSized int → (minus : Bool) → (class_of int ≡ narrow) ⊎ (10 ^ 15 ≤ bound_of int minus)
bound-least int sized minus = search (arith, sizes)

pub limit-least : (int : IntType) → 16 ≤ limit_of int
limit-least int = search arith

pub bound_below-64 : (int : IntType) → IsSized int → (minus : Bool) → bound_of int minus < 10 ^ 64
bound_below-64 int sized minus = search (arith, pow-le-pow_right, sizes, magnitude_below)

places-le : (table : Table) (s : List ℕ) (limit : ℕ) → value table (run table s) < 10 ^ limit → run_len table s - zeros table s ≤ limit
places-le table s limit h =
    let more : limit < run_len table s - zeros table s → 10 ^ limit ≤ 10 ^ (run_len table s - zeros table s - 1) =
    λ lt. pow-le-pow_right {n = 10} (omega arith) (omega arith) in
    grind (arith, value-ge table s, more)

-- Without its leading zeros, a number in range has few enough digits.
pub in_range_short : (table : Table) (int : IntType) → IsSized int → (minus : Bool) (s : List ℕ)
    → value table (run table s) ≤ bound_of int minus
    → is_above (limit_at (class_of int) whole true (limit_of int)) (significant_len table true s) ≡ false
in_range_short table int sized minus s le = search (arith, bound-limit, short_enough, places-le, lt_of_le_of_lt)
