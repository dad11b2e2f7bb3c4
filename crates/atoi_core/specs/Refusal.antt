-- Errors as contracts see them: a *reason* has its slice as a list.
use Rattle.std.specs.Prelude.{ℕ, List, [], ◌∷◌, Result, Ok, Err}
use Rattle.std.specs.Ordering.{nat_cmp, ordering_then}
use Rattle.std.specs.Cmp.Lexicographic.{slice_cmp}
use Rattle.std.specs.declared.cmp.Ordering.{Ordering}
use Rattle.atoi_core.specs.declared.error.AtoiSimdError.{AtoiSimdError}
use Rattle.atoi_core.specs.declared.error.AtoiSimdError.TheVariants.{Empty, Size, Overflow, Invalid64, Invalid128}

-- One reason for each variant of `AtoiSimdError`.
pub data Refusal : Type 0 where
  empty : Refusal
  size : ℕ → List ℕ → Refusal
  overflow : List ℕ → Refusal
  invalid64 : ℕ → ℕ → List ℕ → Refusal
  invalid128 : ℕ → ℕ → List ℕ → Refusal

abbrev pub refusal_of : AtoiSimdError → Refusal
refusal_of Empty = empty
refusal_of (Size length input) = size length input.now
refusal_of (Overflow input) = overflow input.now
refusal_of (Invalid64 number index input) = invalid64 number index input.now
refusal_of (Invalid128 number index input) = invalid128 number index input.now

-- A `Result` with the reason in place of the error.
abbrev pub answer_of : {A : Type 0} → Result A AtoiSimdError → Result A Refusal
answer_of (Ok value) = Ok value
answer_of (Err error) = Err (refusal_of error)

-- The position of a reason among the five, from 0.
abbrev pub rank : Refusal → ℕ
rank empty = 0
rank (size length input) = 1
rank (overflow input) = 2
rank (invalid64 number index input) = 3
rank (invalid128 number index input) = 4

-- The numbers that a reason holds, from left to right.
abbrev pub numbers : Refusal → List ℕ
numbers (size length input) = length ∷ []
numbers (invalid64 number index input) = number ∷ index ∷ []
numbers (invalid128 number index input) = number ∷ index ∷ []
numbers reason = []

-- The slice that a reason holds.
abbrev pub input_of : Refusal → List ℕ
input_of empty = []
input_of (size length input) = input
input_of (overflow input) = input
input_of (invalid64 number index input) = input
input_of (invalid128 number index input) = input

-- By rank, then numbers, then slices.
abbrev pub refusal_cmp : Refusal → Refusal → Ordering
refusal_cmp a b =
    ordering_then (nat_cmp (rank a) (rank b))
    (ordering_then (slice_cmp nat_cmp (numbers a) (numbers b))
    (slice_cmp nat_cmp (input_of a) (input_of b)))
