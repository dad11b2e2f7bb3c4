-- What a parse needs to know of an integer type.
use Rattle.std.specs.Prelude.{◌≡◌, ℕ, ◌+◌, ◌-◌, ◌^◌, Bool, true, false, ◌==◌, ◌||◌, nat_le, if◌then◌else◌}
use Rattle.atoi_core.specs.Magnitude.{Class, narrow, wide64, wide128}

-- A type's bits, whether it is signed, and its largest value.
pub record IntType : Type 0 where
  pub bits : ℕ
  pub signed : Bool
  pub greatest : ℕ

abbrev pub int_type : ℕ → Bool → ℕ → IntType
int_type bits signed greatest = record { bits = bits; signed = signed; greatest = greatest }

-- The largest value of `bits` bits, one of them for the sign if signed.
abbrev pub greatest_of : ℕ → Bool → ℕ
greatest_of bits true = 2 ^ (bits - 1) - 1
greatest_of bits false = 2 ^ bits - 1

-- The number of bits of a type that a parse can return.
abbrev pub is_size : ℕ → Bool
is_size bits = bits == 8 || bits == 16 || bits == 32 || bits == 64 || bits == 128

-- One of the five sizes, with its largest value.
pub record IsSized (int : IntType) : Type 0 where
  pub bits : is_size int.bits ≡ true
  pub greatest : int.greatest ≡ greatest_of int.bits int.signed

-- The fields of `int`, which has one of the five sizes, are these constants of a type.
pub record IsTypeOf (int : IntType) (bits : ℕ) (signed : Bool) (greatest : ℕ) : Type 0 where
  pub bits_are : int.bits ≡ bits
  pub sign_is : int.signed ≡ signed
  pub greatest_is : int.greatest ≡ greatest
  pub sized : IsSized int

abbrev pub class_of : IntType → Class
class_of int = if nat_le int.bits 32 then narrow else (if int.bits == 64 then wide64 else wide128)

-- The largest magnitude in range: the largest value, or with a minus one more.
abbrev pub bound_of : IntType → Bool → ℕ
bound_of int minus = if minus then int.greatest + 1 else int.greatest

-- How many digits a wide type's largest magnitude has, for both signs.
abbrev pub limit_of : IntType → ℕ
limit_of int = if int.bits == 64 then (if int.signed then 19 else 20) else 39

-- The twelve integer types. `usize` and `isize` have 64 bits.
abbrev pub u8_type : IntType
u8_type = int_type 8 false 255

abbrev pub i8_type : IntType
i8_type = int_type 8 true 127

abbrev pub u16_type : IntType
u16_type = int_type 16 false 65535

abbrev pub i16_type : IntType
i16_type = int_type 16 true 32767

abbrev pub u32_type : IntType
u32_type = int_type 32 false 4294967295

abbrev pub i32_type : IntType
i32_type = int_type 32 true 2147483647

abbrev pub u64_type : IntType
u64_type = int_type 64 false 18446744073709551615

abbrev pub i64_type : IntType
i64_type = int_type 64 true 9223372036854775807

abbrev pub u128_type : IntType
u128_type = int_type 128 false 340282366920938463463374607431768211455

abbrev pub i128_type : IntType
i128_type = int_type 128 true 170141183460469231731687303715884105727

abbrev pub usize_type : IntType
usize_type = int_type 64 false 18446744073709551615

abbrev pub isize_type : IntType
isize_type = int_type 64 true 9223372036854775807
