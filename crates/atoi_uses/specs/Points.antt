-- Points, written as three numbers with commas between them.
use Rattle.std.specs.Prelude.{◌≡◌, List, ℕ, ◌++◌, codes}
use Rattle.atoi_formats.specs.Formats.{IsNumber}
use Rattle.atoi_simd.specs.IntType.{i64_type}
use Rattle.atoi_uses.specs.declared.points.Point.{Point}

-- Three `i64` with commas between them, and nothing else. Each may have a sign and leading zeros.
pub record IsPoint (text : List ℕ) (point : Point) : Type 0 where
  pub x : List ℕ
  pub y : List ℕ
  pub z : List ℕ
  pub parts : text ≡ x ++ (codes "," ++ (y ++ (codes "," ++ z)))
  pub x_is : IsNumber i64_type x point.x
  pub y_is : IsNumber i64_type y point.y
  pub z_is : IsNumber i64_type z point.z
