-- A block of numbers adds its sum to the total.
use Rattle.std.proofs.Common.{◌≡◌, ℕ, ◌+◌, List, [], ◌∷◌, ◌++◌, map, sum, ℤ, pos, Result, Ok, add-zero, add_assoc}
use Rattle.std.proofs.lemmas.List.Sums.{sum_by-cons}
use Rattle.atoi_column.specs.FieldItems.{BadField}
use Rattle.atoi_uses.specs.BlockTotals.{total_after}

pub block_adds : (item : ℕ → Result ℤ BadField) → ((value : ℕ) → item value ≡ Ok (pos value))
    → (before : ℕ) (block : List ℕ) (left : List (Result ℤ BadField))
    → total_after (pos before) (map item block ++ left) ≡ total_after (pos (before + sum block)) left
block_adds item is before [] left = rw add-zero
block_adds item is before (value ∷ block) left =
    rw (is value, block_adds item is (before + value) block left, sum_by-cons (λ (x : ℕ). x) value block, ← add_assoc)
