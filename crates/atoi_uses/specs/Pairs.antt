-- Pairs such as `key=12;key=-7;`, one after another.
use Rattle.std.specs.Prelude.{◌≡◌, ℕ, List, ◌++◌, ℤ, pos, ◌+ℤ◌, codes}
use Rattle.atoi_formats.specs.Formats.{IsNumber}
use Rattle.atoi_simd.specs.IntType.{i64_type}

-- A pair with that number, then `rest`.
pub record IsPair (text : List ℕ) (number : ℤ) (rest : List ℕ) : Type 0 where
  pub bytes : List ℕ
  pub parts : text ≡ codes "key=" ++ (bytes ++ (codes ";" ++ rest))
  pub number_is : IsNumber i64_type bytes number

-- Any number of pairs whose numbers add up to `total`, then `rest`.
pub data HavePairs (text : List ℕ) : (total : ℤ) → (rest : List ℕ) → Type 0 where
  no_pair : HavePairs text (pos 0) text
  one_more : {total number sum : ℤ} {pair rest : List ℕ} → HavePairs text total pair → IsPair pair number rest
      → sum ≡ total +ℤ number → HavePairs text sum rest
