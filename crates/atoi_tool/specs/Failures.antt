-- Refused calls, and what was written at one.
use Rattle.std.specs.Prelude.{◌≡◌, ◌++◌, ℕ, ◌<◌, Option, Result, Ok, Err, List, length, take, MatchResult}
use Rattle.std.specs.Io.KnownBytes.{Appends}

-- What a call's result adds to the failures.
abbrev pub failures_of : {A E : Type 0} → Result A E → ℕ
failures_of (Ok value) = 0
failures_of (Err error) = 1

-- Known bytes grow by a proper prefix of `bytes`.
abbrev pub AppendsPrefix : Option (List ℕ) → Option (List ℕ) → List ℕ → Type 0
AppendsPrefix old new bytes = (count : ℕ) × (count < length bytes) × Appends old new (take count bytes)

-- Known bytes grow by `whole` without its end `rest`.
abbrev pub AppendsUpTo : Option (List ℕ) → Option (List ℕ) → (whole rest : List ℕ) → Type 0
AppendsUpTo old new whole rest = (front : List ℕ) × Appends old new front × (whole ≡ front ++ rest)

-- Known bytes grow by `whole` without its end `rest`, and at a refusal by a proper prefix of it.
abbrev pub PutAppends : {A E : Type 0} → Option (List ℕ) → Option (List ℕ) → Result A E → (whole rest : List ℕ) → Type 0
PutAppends old new result whole rest = MatchResult result (λ _. AppendsUpTo old new whole rest) (λ _. AppendsPrefix old new whole)
