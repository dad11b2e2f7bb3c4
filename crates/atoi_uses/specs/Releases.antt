-- Versions such as `1.22.333`, and what follows them.
use Rattle.std.specs.Prelude.{◌≡◌, List, ℕ, ◌++◌, pos, codes}
use Rattle.atoi_core.specs.Text.{BeginsWithDigit}
use Rattle.atoi_formats.specs.Formats.{IsCanonical}
use Rattle.atoi_simd.specs.IntType.{u64_type}
use Rattle.atoi_uses.specs.declared.releases.Release.{Release}

-- Three `u64` as `{}` prints them, with dots between them, then `rest`, which does not begin with a digit.
pub record IsRelease (text : List ℕ) (release : Release) (rest : List ℕ) : Type 0 where
  pub major : List ℕ
  pub minor : List ℕ
  pub patch : List ℕ
  pub parts : text ≡ major ++ (codes "." ++ (minor ++ (codes "." ++ (patch ++ rest))))
  pub major_is : IsCanonical u64_type major (pos release.major)
  pub minor_is : IsCanonical u64_type minor (pos release.minor)
  pub patch_is : IsCanonical u64_type patch (pos release.patch)
  pub ends : ¬ BeginsWithDigit rest
