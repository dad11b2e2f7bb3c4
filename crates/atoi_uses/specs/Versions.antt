-- Versions such as `1.22.333`.
use Rattle.std.specs.Prelude.{◌≡◌, false, List, ℕ, ◌++◌, pos, codes}
use Rattle.atoi_simd.specs.IntType.{u32_type}
use Rattle.atoi_simd.specs.Text.{DigitsWrite}
use Rattle.atoi_uses.specs.declared.versions.Version.{Version}

-- Three `u32` with dots between them, and nothing else.
pub record IsVersion (text : List ℕ) (version : Version) : Type 0 where
  pub major : List ℕ
  pub minor : List ℕ
  pub patch : List ℕ
  pub parts : text ≡ major ++ (codes "." ++ (minor ++ (codes "." ++ patch)))
  pub major_is : DigitsWrite u32_type false major (pos version.major)
  pub minor_is : DigitsWrite u32_type false minor (pos version.minor)
  pub patch_is : DigitsWrite u32_type false patch (pos version.patch)
