-- Where an iterator is between two reads.
use Rattle.std.specs.Prelude.{◌≡◌, ℕ, ◌+◌, ◌^◌, ◌<◌, ◌≤◌, true, List, length}
use Rattle.atoi_column.specs.Fields.{is_separator}

-- The field `index` begins at offset `place`, where `rest` begins.
pub record IsPosition (separator index place : ℕ) (rest : List ℕ) : Type 0 where
  pub separates : is_separator separator ≡ true
  pub fewer : index ≤ place
  pub within : place + length rest < 2 ^ 64

-- The field `index` begins where `rest` begins, and `rest` ends at the offset `end`.
pub record IsBeforeEnd (separator index end : ℕ) (rest : List ℕ) : Type 0 where
  pub separates : is_separator separator ≡ true
  pub counts : index + length rest < 2 ^ 64
  pub within : length rest ≤ end
