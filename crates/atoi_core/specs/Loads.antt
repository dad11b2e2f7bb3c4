-- How many loads a call makes; a *load* reads one window.
use Rattle.std.specs.Prelude.{ℕ, ◌+◌, ◌*◌, ◌/◌, ◌<◌, ◌≤◌, Bool, true, IsTrue, List, length}
use Rattle.atoi_core.specs.Digit.{Table}
use Rattle.atoi_core.specs.Run.{zeros}
use Rattle.atoi_core.specs.Magnitude.{Class, Extent, narrow, wide64, wide128, whole}
use Rattle.atoi_core.specs.IntType.{IntType, class_of}

-- The loads allowed for 16 leading zeros, a *turn*.
abbrev pub loads_a_turn : Class → ℕ
loads_a_turn narrow = 1
loads_a_turn wide64 = 2
loads_a_turn wide128 = 3

-- The most loads: a turn for each 16 leading zeros, and two turns more.
abbrev pub most_loads : Table → Class → List ℕ → ℕ
most_loads table class s = loads_a_turn class * (zeros table s / 16 + 2)

-- Whether zeros are skipped: a narrow whole parse always skips them.
abbrev pub skips_zeros : Class → Extent → Bool → Bool
skips_zeros narrow whole skip = true
skips_zeros class extent skip = skip

-- `before` and `after` count the loads up to a call and up to its return.
pub record LoadsWithin (most : ℕ) (table : Table) (skip : Bool) (s : List ℕ) (before after : ℕ) : Type 0 where
  pub at_most : after ≤ before + most
  pub at_least : 0 < length s → before < after
  pub at_least_skipping : IsTrue skip → before + zeros table s / 32 ≤ after

-- For a width class.
abbrev pub ClassLoads : Table → Class → Bool → List ℕ → (before after : ℕ) → Type 0
ClassLoads table class skip s before after = LoadsWithin (most_loads table class s) table skip s before after

-- For an integer type, by its width class.
abbrev pub TypedLoads : Table → IntType → Extent → Bool → List ℕ → (before after : ℕ) → Type 0
TypedLoads table int extent skip s before after =
    ClassLoads table (class_of int) (skips_zeros (class_of int) extent skip) s before after
