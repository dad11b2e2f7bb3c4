-- Where the digits of a time end, and that nine of them are below a billion.
use Rattle.std.proofs.Common.{◌≡◌, ◌<◌, ◌≤◌, ◌+◌, ◌-◌, ◌*◌, ◌^◌, List, ℕ, [], ◌∷◌, length, sym, ap, subst, ◌∙◌, pow-add, mul-lt-mul_of_pos_right, arith}
use Rattle.std.proofs.Math.Nat.{pow-le-pow_right}
use Rattle.std.proofs.lemmas.Int.Digits.{digits_value-lt}
use Rattle.std.specs.Str.Parse.{IsNumeral, digits_value}
use Rattle.atoi_formats.specs.Formats.{AreLeading}

-- Digits before a colon are all the digits at the start.
pub before_colon : (digits rest : List ℕ) → IsNumeral 10 digits → length digits ≤ 2 → AreLeading digits (58 ∷ rest) 1 2
before_colon digits rest numeral short = record { enough = numeral.0; at_most = short; ends = λ few begins. omega (arith, begins.1) }

module _ (digits : List ℕ) (numeral : IsNumeral 10 digits) (short : length digits ≤ 9) where
  -- So are digits at the end.
  pub at_end : AreLeading digits [] 1 9
  at_end = record { enough = numeral.0; at_most = short; ends = λ few begins. begins }

  below : digits_value 10 digits < 10 ^ length digits
  below = digits_value-lt 10 digits numeral.1

  pub fit : digits_value 10 digits < 4294967296
  fit = omega (arith, below, pow-le-pow_right {n = 10} (omega arith) short)

  some : 1 ≤ 10 ^ (9 - length digits)
  some = pow-le-pow_right {n = 10} (omega arith) {i = 0} (omega arith)

  pub billionths_fit : digits_value 10 digits * 10 ^ (9 - length digits) < 1000000000
  billionths_fit =
      let nine : length digits + (9 - length digits) ≡ 9 = omega (arith, short) in
      let all : 10 ^ length digits * 10 ^ (9 - length digits) ≡ 1000000000 =
      sym (pow-add 10 (length digits) (9 - length digits)) ∙ ap (λ n. 10 ^ n) nine in
      subst (λ n. digits_value 10 digits * 10 ^ (9 - length digits) < n) all
      (mul-lt-mul_of_pos_right {k = 10 ^ (9 - length digits)} below some)
