-- A number of one type at the start of a slice is a number of another type of the same sign.
use Rattle.std.proofs.Common.{◌≡◌, ℕ, ◌+◌, ◌<◌, ◌≤◌, Bool, false, List, ℤ, Ok, refl, sym, ap, ap₂, arith, if◌then◌else◌}
use Rattle.std.proofs.lemmas.Bool.Decides.{nat_tests}
use Rattle.atoi_core.specs.Digit.{decimal_table}
use Rattle.atoi_core.specs.Run.{run_len, run, value}
use Rattle.atoi_core.specs.Laws.{looked_for}
use Rattle.atoi_core.specs.Magnitude.{prefix, is_above}
use Rattle.atoi_core.specs.IntType.{IntType, class_of, bound_of, limit_of}
use Rattle.atoi_core.specs.Sign.{sign_of, with_sign}
use Rattle.atoi_core.proofs.lemmas.Refusals.{limit_at, significant_len, refusal-none}
use Rattle.atoi_core.proofs.lemmas.Calls.{IsFound, found_prefix}
use Rattle.atoi_fast.specs.Short.{BeginsWithNumber}

short_too : (wide int : IntType) (skip : Bool) (significant digits : ℕ) → wide.bits ≡ 64 → wide.signed ≡ int.signed
    → (int.bits < 64 → digits ≤ 16) → significant ≤ digits
    → is_above (limit_at (class_of wide) prefix skip (limit_of wide)) significant ≡ false
    → is_above (limit_at (class_of int) prefix skip (limit_of int)) significant ≡ false
short_too wide int skip significant digits word same few less short = grind (arith, nat_tests)

pub other_type : (wide int : IntType) (s : List ℕ) (number : ℤ) (len : ℕ) → wide.bits ≡ 64 → wide.signed ≡ int.signed
    → (int.bits < 64 → len ≤ 16)
    → ((minus : Bool) (magnitude : ℕ) → with_sign minus magnitude ≡ number → magnitude ≤ bound_of wide minus → magnitude ≤ bound_of int minus)
    → BeginsWithNumber wide s number len → BeginsWithNumber int s number len
other_type wide int s number len word same few fits begins = λ skip plus.
    let sign = sign_of int.signed plus s in
    let signs : sign_of wide.signed plus s ≡ sign = ap (λ signed. sign_of signed plus s) same in
    let found : IsFound wide sign skip number len =
    rw signs at (found_prefix wide (looked_for plus) skip s number len (sym (begins skip plus))) in
    let digits : int.bits < 64 → run_len decimal_table sign.body ≤ 16 = λ narrow. omega (arith, few narrow, found.count_is) in
    let short = short_too wide int skip (significant_len decimal_table skip sign.body) (run_len decimal_table sign.body) word same digits
    (omega arith) found.is_prefix.short in
    let accepted = refusal-none decimal_table (class_of int) (bound_of int sign.minus) (limit_of int) prefix skip sign.body
    (record {
      some = found.is_prefix.some;
      short = short;
      in_range = fits sign.minus (value decimal_table (run decimal_table sign.body)) (sym found.number) found.is_prefix.in_range;
      ends = refl;
    }) in
    rw accepted (ap₂ (λ n k. Ok (n, k)) found.number found.count_is)

pub same_magnitude : (greatest : ℕ) (minus other : Bool) (magnitude same : ℕ) → with_sign other same ≡ with_sign minus magnitude
    → magnitude ≤ (if minus then greatest + 1 else greatest) → same ≤ (if other then greatest + 1 else greatest)
same_magnitude greatest minus other magnitude same is in_range = grind (arith, nat_tests)
