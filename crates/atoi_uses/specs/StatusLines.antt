-- The status lines of HTTP.
use Rattle.std.specs.Prelude.{◌≡◌, ℕ, false, List, ◌++◌, length, codes, pos}
use Rattle.atoi_simd.specs.IntType.{u16_type}
use Rattle.atoi_simd.specs.Text.{DigitsWrite}

-- `HTTP/1.1`, three digits of the code, and a reason, a space before each.
pub record IsStatusLine (line : List ℕ) (code : ℕ) (reason : List ℕ) : Type 0 where
  pub digits : List ℕ
  pub parts : line ≡ codes "HTTP/1.1 " ++ (digits ++ (codes " " ++ reason))
  pub three : length digits ≡ 3
  pub code_is : DigitsWrite u16_type false digits (pos code)
