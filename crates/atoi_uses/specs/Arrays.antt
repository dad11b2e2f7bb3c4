-- Arrays of JSON such as `[12, -0, 7]`.
use Rattle.std.specs.Prelude.{◌≡◌, ℕ, List, ◌++◌, ℤ, pos, ◌+ℤ◌, codes}
use Rattle.atoi_formats.specs.Formats.{IsJsonInteger}
use Rattle.atoi_simd.specs.IntType.{i64_type}

-- Numbers with `, ` between them that add up to `total`, then `]`, then `rest`.
pub data HasTotal : (text : List ℕ) → (total : ℤ) → (rest : List ℕ) → Type 0 where
  last : {text rest : List ℕ} {number : ℤ} (bytes : List ℕ) → IsJsonInteger i64_type bytes number
      → text ≡ bytes ++ (codes "]" ++ rest) → HasTotal text number rest
  more : {text rest : List ℕ} {total others : ℤ} (bytes next : List ℕ) (number : ℤ) → IsJsonInteger i64_type bytes number
      → text ≡ bytes ++ (codes ", " ++ next) → HasTotal next others rest → total ≡ number +ℤ others → HasTotal text total rest

-- No number or such numbers, after `[`.
pub data IsArray : (text : List ℕ) → (total : ℤ) → (rest : List ℕ) → Type 0 where
  empty : {text rest : List ℕ} → text ≡ codes "[]" ++ rest → IsArray text (pos 0) rest
  filled : {text rest : List ℕ} {total : ℤ} (numbers : List ℕ) → text ≡ codes "[" ++ numbers → HasTotal numbers total rest
      → IsArray text total rest
