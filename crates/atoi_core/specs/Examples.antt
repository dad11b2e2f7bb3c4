-- Worked examples, each computed from the definitions by the check.
use Rattle.std.specs.Fmt.{digits}
use Rattle.std.specs.Prelude.{◌≡◌, Bool, [], true, false, ◌∷◌, length, replicate, decimal, pos, negsuc, codes, Ok, Err, refl}
use Rattle.atoi_core.specs.Digit.{decimal_table}
use Rattle.atoi_core.specs.Refusal.{empty, size, overflow, invalid64, invalid128, refusal_cmp}
use Rattle.atoi_core.specs.ErrorText.{error_text}
use Rattle.atoi_core.specs.Magnitude.{refusal}
use Rattle.atoi_core.specs.IntType.{IntType, bound_of, limit_of, u8_type, i8_type, u32_type, i32_type, u64_type, i64_type, u128_type, i128_type}
use Rattle.atoi_core.specs.Answer.{parse_answer, parse_prefix_answer, whole_answer}
use Rattle.atoi_core.specs.Sign.{sign_of}
use Rattle.std.specs.declared.cmp.Ordering.TheVariants.{Less}

pub record ParseExamples : Type 0 where
  -- Both flags on: a plus and any number of zeros.
  pub plus_and_zeros : parse_answer u64_type true true (codes "+000000000000000000001234") ≡ Ok (pos 1234)
  -- The count of a prefix includes the plus and the zeros.
  pub plus_and_zeros_count : parse_prefix_answer u64_type true true (codes "+000000000000000000001234") ≡ Ok (pos 1234, 25)
  -- A minus is accepted if the type is signed.
  pub minus : parse_answer i64_type false false (codes "-2345") ≡ Ok (negsuc 2344)
  -- A call for negative numbers reads digits without a minus.
  pub negative_body : whole_answer decimal_table i64_type true false (codes "2345") ≡ Ok (negsuc 2344)
  -- A prefix stops at the first byte that is no digit.
  pub prefix_stops : parse_prefix_answer u64_type false false (codes "123something_else") ≡ Ok (pos 123, 3)
  -- A value above the bound is `overflow`, whatever follows the digits.
  pub overflow_first : parse_answer u8_type false false (codes "256x") ≡ Err (overflow (codes "256x"))
  -- A byte follows the digits: their value and its index.
  pub invalid_after_value : parse_answer u8_type false false (codes "255x") ≡ Err (invalid64 255 3 (codes "255x"))
  -- The smallest value of a type is in range.
  pub least_value : parse_answer i8_type false false (codes "-128") ≡ Ok (negsuc 127)
  -- The value below it is not; its slice has no sign.
  pub below_least : parse_answer i8_type false false (codes "-129") ≡ Err (overflow (codes "129"))
  -- A narrow prefix without skipping has at most 16 digits.
  pub seventeen_digits_of_u8 : parse_prefix_answer u8_type false false (codes "00000000000000007")
      ≡ Err (size 17 (codes "00000000000000007"))
  -- 16 digits are accepted, whatever byte follows.
  pub sixteen_digits_of_u8 : parse_prefix_answer u8_type false false (codes "0000000000000000x") ≡ Ok (pos 0, 16)
  -- The sign is not one of the 16 digits.
  pub sixteen_digits_of_i32 : parse_prefix_answer i32_type false false (codes "-0000000000000007x") ≡ Ok (negsuc 6, 17)
  -- The slice in the error has no sign.
  pub seventeen_digits_of_i8 : parse_prefix_answer i8_type false false (codes "-00000000000000000")
      ≡ Err (size 17 (codes "00000000000000000"))
  -- Digits are counted before the range; `size` counts at most 17.
  pub size_before_range : parse_prefix_answer u8_type false false (codes "00000000000000255999")
      ≡ Err (size 17 (codes "00000000000000255999"))
  -- Even if the first 16 digits already pass the bound.
  pub size_of_seventeen_ones : parse_prefix_answer u32_type false false (codes "11111111111111111")
      ≡ Err (size 17 (codes "11111111111111111"))
  -- 16 ones are few enough, but out of range.
  pub range_of_sixteen_ones : parse_prefix_answer u32_type false false (codes "1111111111111111")
      ≡ Err (overflow (codes "1111111111111111"))
  -- With skipping, a narrow prefix has any number of digits.
  pub narrow_prefix_skips : parse_prefix_answer u8_type true false (codes "00000000000000007") ≡ Ok (pos 7, 17)
  pub zeros_alone : parse_prefix_answer u8_type true false (codes "0000000000000000") ≡ Ok (pos 0, 16)
  -- Zeros are dropped if the block in which they end is full.
  pub overflow_without_zeros : parse_prefix_answer u8_type true false (codes "00000000000000255999") ≡ Err (overflow (codes "255999"))
  -- 16 digits fill a block: its 13 zeros are dropped.
  pub overflow_drops_thirteen : parse_prefix_answer u8_type true false (codes "0000000000000999x") ≡ Err (overflow (codes "999x"))
  -- 15 digits do not: 12 zeros are kept.
  pub overflow_keeps_twelve : parse_prefix_answer u8_type true false (codes "000000000000999x") ≡ Err (overflow (codes "000000000000999x"))
  -- Zeros that are not skipped count towards the limit.
  pub zeros_count_as_digits : parse_answer u64_type false false (codes "000000000000000000000")
      ≡ Err (size 21 (codes "000000000000000000000"))
  -- Skipped zeros do not count towards the limit.
  pub zeros_skipped : parse_answer u64_type true false (codes "000000000000000000000") ≡ Ok (pos 0)
  -- The largest value of 64 bits is in range.
  pub greatest_u64 : parse_answer u64_type false false (codes "18446744073709551615") ≡ Ok (pos 18446744073709551615)
  pub above_greatest_u64 : parse_answer u64_type false false (codes "18446744073709551616") ≡ Err (overflow (codes "18446744073709551616"))
  -- 20 digits are too many for `i64`, a zero included.
  pub twenty_digits_of_i64 : parse_answer i64_type false false (codes "09223372036854775807") ≡ Err (size 20 (codes "09223372036854775807"))
  -- `size` counts skipped zeros and at most 24 digits after them.
  pub size_is_capped : parse_prefix_answer u64_type true false (codes "0001111111111111111111111111")
      ≡ Err (size 27 (codes "1111111111111111111111111"))
  -- A negative call's error can hold the magnitude of `T::MIN`.
  pub magnitude_of_least : whole_answer decimal_table i64_type true false (codes "9223372036854775808x")
      ≡ Err (invalid64 9223372036854775808 19 (codes "9223372036854775808x"))
  pub least_i64 : whole_answer decimal_table i64_type true false (codes "9223372036854775808") ≡ Ok (negsuc 9223372036854775807)
  pub greatest_u128 : parse_answer u128_type false false (codes "340282366920938463463374607431768211455")
      ≡ Ok (pos 340282366920938463463374607431768211455)
  pub above_greatest_u128 : parse_answer u128_type false false (codes "340282366920938463463374607431768211456")
      ≡ Err (overflow (codes "340282366920938463463374607431768211456"))
  -- 39 unskipped zeros are few enough for 128 bits.
  pub thirty_nine_zeros : parse_answer u128_type false false (codes "000000000000000000000000000000000000000") ≡ Ok (pos 0)
  -- 41 zeros are too many, and `size` counts at most 40.
  pub forty_one_zeros : parse_answer u128_type false false (codes "00000000000000000000000000000000000000000")
      ≡ Err (size 40 (codes "00000000000000000000000000000000000000000"))
  -- The count of a prefix includes a plus that is consumed.
  pub plus_counted : parse_prefix_answer i32_type false true (codes "+12a") ≡ Ok (pos 12, 3)
  pub minus_counted : parse_prefix_answer i32_type false false (codes "-12a") ≡ Ok (negsuc 11, 3)
  -- At most one sign is accepted.
  pub one_sign_alone : parse_answer i8_type false true (codes "+-5") ≡ Err empty
  -- Only the first of two signs is consumed.
  pub second_sign_stays : sign_of true true (codes "+-5") ≡ record { minus = false; taken = 1; body = codes "-5" }
  -- No plus is accepted if the flag is off.
  pub no_plus_unasked : parse_answer i8_type false false (codes "+5") ≡ Err empty
  -- No minus is accepted for an unsigned type.
  pub no_minus_unsigned : parse_answer u8_type false true (codes "-5") ≡ Err empty
  -- An invalid byte's index counts skipped zeros, which the slice keeps.
  pub rest_after_zeros : parse_answer u64_type true false (codes "0000000000000000000000007x")
      ≡ Err (invalid64 7 25 (codes "0000000000000000000000007x"))
  -- 128 bits have a variant of their own for an invalid byte.
  pub wide_error : parse_answer u128_type true false (codes "0000012x") ≡ Err (invalid128 12 7 (codes "0000012x"))

pub parse_examples : ParseExamples
unfolding refusal
parse_examples = record {
  plus_and_zeros = refl;
  plus_and_zeros_count = refl;
  minus = refl;
  negative_body = refl;
  prefix_stops = refl;
  overflow_first = refl;
  invalid_after_value = refl;
  least_value = refl;
  below_least = refl;
  seventeen_digits_of_u8 = refl;
  sixteen_digits_of_u8 = refl;
  sixteen_digits_of_i32 = refl;
  seventeen_digits_of_i8 = refl;
  size_before_range = refl;
  size_of_seventeen_ones = refl;
  range_of_sixteen_ones = refl;
  narrow_prefix_skips = refl;
  zeros_alone = refl;
  overflow_without_zeros = refl;
  overflow_drops_thirteen = refl;
  overflow_keeps_twelve = refl;
  zeros_count_as_digits = refl;
  zeros_skipped = refl;
  greatest_u64 = refl;
  above_greatest_u64 = refl;
  twenty_digits_of_i64 = refl;
  size_is_capped = refl;
  magnitude_of_least = refl;
  least_i64 = refl;
  greatest_u128 = refl;
  above_greatest_u128 = refl;
  thirty_nine_zeros = refl;
  forty_one_zeros = refl;
  plus_counted = refl;
  minus_counted = refl;
  one_sign_alone = refl;
  second_sign_stays = refl;
  no_plus_unasked = refl;
  no_minus_unsigned = refl;
  rest_after_zeros = refl;
  wide_error = refl;
}

pub record ErrorExamples : Type 0 where
  -- Two spaces before `input:` up to 64 bits.
  pub text_of_invalid64 : error_text (invalid64 12 2 (codes "12a"))
      ≡ codes "atoi_simd invalid at index: 2 it must contain only digits, starting with: 12  input: [31, 32, 61]"
  -- One space before `input:` for 128 bits.
  pub text_of_invalid128 : error_text (invalid128 12 2 (codes "12a"))
      ≡ codes "atoi_simd invalid at index: 2 it must contain only digits, starting with: 12 input: [31, 32, 61]"
  -- The text of `size` shows its number and slice.
  pub text_of_size : error_text (size 27 (codes "11")) ≡ codes "atoi_simd wrong size: 27 input: [31, 31]"
  -- An empty slice is a pair of brackets.
  pub text_of_no_input : error_text (overflow (codes "")) ≡ codes "atoi_simd overflow, input: []"
  -- Bytes are in hexadecimal capitals, without leading zeros.
  pub text_of_small_bytes : error_text (overflow (0 ∷ 10 ∷ 13 ∷ 255 ∷ [])) ≡ codes "atoi_simd overflow, input: [0, A, D, FF]"
  -- At most 48 bytes are printed.
  pub text_of_fifty : error_text (overflow (replicate 50 10)) ≡ error_text (overflow (replicate 48 10))
  -- The variant decides the order first.
  pub variant_first : refusal_cmp (size 9 (codes "b")) (overflow (codes "a")) ≡ Less
  -- A proper prefix of a slice is less than the slice.
  pub prefix_first : refusal_cmp (overflow (codes "1")) (overflow (codes "11")) ≡ Less
  -- The left number decides before the right one.
  pub left_number_first : refusal_cmp (invalid64 1 2 (codes "a")) (invalid64 2 1 (codes "a")) ≡ Less

pub error_examples : ErrorExamples
unfolding digits
error_examples = record {
  text_of_invalid64 = refl;
  text_of_invalid128 = refl;
  text_of_size = refl;
  text_of_no_input = refl;
  text_of_small_bytes = refl;
  text_of_fifty = refl;
  variant_first = refl;
  prefix_first = refl;
  left_number_first = refl;
}

-- A wide type's limit is its largest magnitude's number of digits.
abbrev pub HasLimitOfDigits : IntType → Bool → Type 0
HasLimitOfDigits int is_negative = limit_of int ≡ length (decimal (bound_of int is_negative))

pub wide_limits : HasLimitOfDigits u64_type false × (HasLimitOfDigits i64_type false × (HasLimitOfDigits i64_type true
    × (HasLimitOfDigits u128_type false × (HasLimitOfDigits i128_type false × HasLimitOfDigits i128_type true))))
unfolding digits
wide_limits = (refl, (refl, (refl, (refl, (refl, refl)))))
