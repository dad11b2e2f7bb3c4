-- IPv4 addresses, such as `192.168.0.1`.
use Rattle.std.specs.Prelude.{◌≡◌, List, ℕ, ◌++◌, pos, codes}
use Rattle.atoi_formats.specs.Formats.{IsCanonical}
use Rattle.atoi_simd.specs.IntType.{u8_type}
use Rattle.atoi_uses.specs.declared.addresses.Address.{Address}

-- Four `u8` as `{}` prints them, with dots between them, and nothing else.
pub record IsAddress (text : List ℕ) (address : Address) : Type 0 where
  pub first : List ℕ
  pub second : List ℕ
  pub third : List ℕ
  pub fourth : List ℕ
  pub parts : text ≡ first ++ (codes "." ++ (second ++ (codes "." ++ (third ++ (codes "." ++ fourth)))))
  pub first_is : IsCanonical u8_type first (pos address.first)
  pub second_is : IsCanonical u8_type second (pos address.second)
  pub third_is : IsCanonical u8_type third (pos address.third)
  pub fourth_is : IsCanonical u8_type fourth (pos address.fourth)
