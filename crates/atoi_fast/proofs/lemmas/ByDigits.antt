-- The answers that a run decides: with zeros skipped, a magnitude in range has few enough digits.
use Rattle.std.proofs.Common.{◌≡◌, ℕ, ◌+◌, ◌<◌, ◌≤◌, Bool, true, false, List, length, Some, None, nat_lt, if◌then◌else◌, Result, Ok, IsErr, inl, refl, sym, arith}
use Rattle.std.proofs.lemmas.Bool.Decides.{nat_tests}
use Rattle.atoi_core.specs.Digit.{decimal_table}
use Rattle.atoi_core.specs.Run.{run_len, run, value}
use Rattle.atoi_core.specs.Refusal.{Refusal}
use Rattle.atoi_core.specs.Magnitude.{whole, is_above}
use Rattle.atoi_core.specs.IntType.{IntType, IsSized, class_of, bound_of, limit_of}
use Rattle.atoi_core.specs.Sign.{sign_of, with_sign}
use Rattle.atoi_core.specs.Answer.{parse_answer, parse_prefix_answer}
use Rattle.atoi_core.specs.Laws.{looked_for}
use Rattle.atoi_core.proofs.lemmas.Refusals.{limit_at, significant_len}
use Rattle.atoi_core.proofs.lemmas.Bounds.{in_range_short, limit_of_prefix}
use Rattle.atoi_core.proofs.lemmas.Calls.{ok_prefix, found_prefix, from_whole, to_whole}

-- One more digit, if the number is within the bound with it.
pub appended : (bound sum number : ℕ) → Some number ≡ (if nat_lt bound sum then None else Some sum) → (number ≡ sum) × (sum ≤ bound)
appended bound sum number is = grind (arith, nat_tests)

pub too_large : (bound sum : ℕ) → None ≡ (if nat_lt bound sum then None else Some sum) → bound < sum
too_large bound sum is = grind (arith, nat_tests)

-- What is never a number is an error.
err_unless : {A : Type 0} (answer : Result A Refusal) → ((found : A) → ¬ (answer ≡ Ok found)) → IsErr answer
err_unless answer never = grind arith

module _ (int : IntType) (sized : IsSized int) (s : List ℕ) where
  pub prefix_found : (number len : ℕ) →
      let sign = sign_of int.signed false s in
      0 < run_len decimal_table sign.body → number ≡ value decimal_table (run decimal_table sign.body)
      → number ≤ bound_of int sign.minus → len ≡ run_len decimal_table sign.body + sign.taken
      → Ok (with_sign sign.minus number, len) ≡ parse_prefix_answer int true false s
  prefix_found number len some number_is in_range len_is =
      let sign = sign_of int.signed false s in
      let fits : value decimal_table (run decimal_table sign.body) ≤ bound_of int sign.minus = omega arith in
      sym (ok_prefix int (looked_for false) true s (with_sign sign.minus number) len (record {
        is_prefix = record {
          some = some;
          short = rw (limit_of_prefix int true (limit_of int) (inl refl))
              (in_range_short decimal_table int sized sign.minus sign.body fits);
          in_range = fits;
          ends = refl;
        };
        number = rw number_is refl;
        count_is = len_is;
      }))

  pub prefix_refused :
      let sign = sign_of int.signed false s in
      (0 < run_len decimal_table sign.body → bound_of int sign.minus < value decimal_table (run decimal_table sign.body))
      → IsErr (parse_prefix_answer int true false s)
  prefix_refused over =
      err_unless (parse_prefix_answer int true false s) (λ found is.
      let read = found_prefix int (looked_for false) true s found.0 found.1 is in
      omega (arith, over read.is_prefix.some, read.is_prefix.in_range))

  module _ (skip plus : Bool) where
    -- Without skipping, a wide type has a limit on digits.
    short_enough : (minus : Bool) (body : List ℕ) → value decimal_table (run decimal_table body) ≤ bound_of int minus
        → (skip ≡ false → 32 < int.bits → run_len decimal_table body ≤ limit_of int)
        → is_above (limit_at (class_of int) whole skip (limit_of int)) (significant_len decimal_table skip body) ≡ false
    short_enough minus body fits few = grind (arith, nat_tests, in_range_short decimal_table int sized minus body fits, few)

    pub whole_found : (number : ℕ) →
        let sign = sign_of int.signed plus s in
        0 < run_len decimal_table sign.body → run_len decimal_table sign.body ≡ length sign.body
        → number ≡ value decimal_table (run decimal_table sign.body) → number ≤ bound_of int sign.minus
        → (skip ≡ false → 32 < int.bits → run_len decimal_table sign.body ≤ limit_of int)
        → Ok (with_sign sign.minus number) ≡ parse_answer int skip plus s
    whole_found number some all number_is in_range few =
        let sign = sign_of int.signed plus s in
        let fits : value decimal_table (run decimal_table sign.body) ≤ bound_of int sign.minus = omega arith in
        sym (to_whole int sign.minus skip sign.body (with_sign sign.minus number) (record {
          some = some;
          short = short_enough sign.minus sign.body fits few;
          in_range = fits;
          all = all;
          number = rw number_is refl;
        }))

    pub whole_refused :
        let sign = sign_of int.signed plus s in
        (0 < run_len decimal_table sign.body → bound_of int sign.minus < value decimal_table (run decimal_table sign.body))
        → IsErr (parse_answer int skip plus s)
    whole_refused over =
        let sign = sign_of int.signed plus s in
        err_unless (parse_answer int skip plus s) (λ found is.
        let read = from_whole int sign.minus skip sign.body found is in
        omega (arith, over read.some, read.in_range))

    pub whole_too_long :
        let sign = sign_of int.signed plus s in
        skip ≡ false → 32 < int.bits → limit_of int < run_len decimal_table sign.body → IsErr (parse_answer int skip plus s)
    whole_too_long unskipped wide long =
        let sign = sign_of int.signed plus s in
        err_unless (parse_answer int skip plus s) (λ found is.
        let read = from_whole int sign.minus skip sign.body found is in
        grind (arith, nat_tests, read.short))

    pub whole_followed :
        let sign = sign_of int.signed plus s in
        (run_len decimal_table sign.body ≡ length sign.body → ⊥) → IsErr (parse_answer int skip plus s)
    whole_followed followed =
        let sign = sign_of int.signed plus s in
        err_unless (parse_answer int skip plus s) (λ found is.
        followed (from_whole int sign.minus skip sign.body found is).all)
