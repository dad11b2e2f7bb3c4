-- Lanes, windows read from them, and digits joined in them.
use Rattle.std.specs.Prelude.{◌≡◌, ℕ, ◌+◌, ◌*◌, ◌≤◌, true, List, [], ◌∷◌, ◌++◌, length, drop, replicate, Some}
use Rattle.atoi_core.specs.Digit.{Table, decimal_table}
use Rattle.atoi_core.specs.Reading.{Reading, IsSkipped}
use Rattle.atoi_fast.specs.declared.vectors.window_32.Window32.{Window32}

-- A vector between lanes of 0.
abbrev pub padded : List ℕ → List ℕ
padded v = replicate 16 0 ++ (v ++ replicate 16 0)

-- The table of elements that are digit values already.
abbrev pub itself : Table
itself byte = Some byte

-- Digits joined in pairs; an odd last one is dropped.
abbrev pub paired : ℕ → List ℕ → List ℕ
paired base [] = []
paired base (last ∷ []) = []
paired base (high ∷ low ∷ rest) = (high * base + low) ∷ paired base rest

-- 32 bytes after skipped zeros; if all are digits, the first is no zero to skip.
pub record ReadsAfterZeros (s : List ℕ) (at : ℕ) (w : Window32) : Type 0 where
  pub skipped : IsSkipped decimal_table true s at
  pub reading : Reading decimal_table 32 (drop at s) w.len w.zeroes w.number
  pub within : at + w.len ≤ length s
  pub ends : 32 ≤ w.len → w.zeroes ≡ 0
