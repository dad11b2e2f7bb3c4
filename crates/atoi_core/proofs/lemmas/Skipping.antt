-- Skipping zeros keeps what is found, and the answer to fewer than 16 digits.
use Rattle.std.proofs.Common.{◌≡◌, ℕ, ◌<◌, ◌≤◌, Bool, true, false, List, Ok, ℤ, arith}
use Rattle.std.proofs.lemmas.Bool.Decides.{nat_tests}
use Rattle.std.proofs.Math.Nat.{pow-le-pow_right}
use Rattle.atoi_core.specs.Digit.{decimal_table}
use Rattle.atoi_core.specs.Run.{run_len, run, value}
use Rattle.atoi_core.specs.Magnitude.{Class, narrow, Extent, prefix, is_above, rule_of}
use Rattle.atoi_core.specs.IntType.{IntType, IsSized, class_of, bound_of}
use Rattle.atoi_core.specs.Laws.{SignForm, prefix_call, SkippingAgrees}
use Rattle.atoi_core.proofs.lemmas.Runs.{value-below, length-run, zeros-le, decimal_below_ten}
use Rattle.atoi_core.proofs.lemmas.Calls.{whole_call-is, prefix_call-is, found_prefix, ok_prefix}
use Rattle.atoi_core.proofs.lemmas.Refusals.{limit_at, significant_len, refusal-is, refused}
use Rattle.atoi_core.proofs.lemmas.Bounds.{shorter, bound-least, limit-least}
use Rattle.atoi_core.proofs.lemmas.Texts.{whole_skipping}

-- A number that is short enough while zeros count is so without them.
shorter_prefix : (class : Class) (limit : ℕ) (body : List ℕ)
    → is_above (limit_at class prefix false limit) (significant_len decimal_table false body) ≡ false
    → is_above (limit_at class prefix true limit) (significant_len decimal_table true body) ≡ false
shorter_prefix class limit body short = grind (arith, nat_tests, shorter)

prefix_skipping : (int : IntType) (form : SignForm) (s : List ℕ) (v : ℤ) (count : ℕ)
    → prefix_call int form false s ≡ Ok (v, count) → prefix_call int form true s ≡ Ok (v, count)
prefix_skipping int form s v count h = search (arith, found_prefix, ok_prefix, shorter_prefix)

-- ---- Fewer than 16 digits

few_enough : (class : Class) (extent : Extent) (skip : Bool) (limit count : ℕ) → 16 ≤ limit → count < 16
    → is_above (limit_at class extent skip limit) count ≡ false
few_enough class extent skip limit count least few = grind (arith, nat_tests)

-- A narrow type drops no zero.
same_dropped : (class : Class) (extent : Extent) (limit digits skipped : ℕ) → class ≡ narrow → skipped ≤ digits → digits < 16
    → (rule_of class extent true limit digits skipped).dropped ≡ (rule_of class extent false limit digits 0).dropped
same_dropped class extent limit digits skipped is le few = grind (arith, nat_tests)

module _ (int : IntType) (sized : IsSized int) (minus : Bool) (extent : Extent) (body : List ℕ)
    (few : run_len decimal_table body < 16) where
  -- Only a narrow type can be too small for so few digits.
  is_narrow : bound_of int minus < value decimal_table (run decimal_table body) → class_of int ≡ narrow
  is_narrow above = search (arith, bound-least, pow-le-pow_right, value-below, decimal_below_ten, length-run)

  short_refused : refused decimal_table int minus extent true body ≡ refused decimal_table int minus extent false body
  short_refused = search (arith, refusal-is, few_enough, limit-least, same_dropped, is_narrow, zeros-le)

pub skipping_agrees : (int : IntType) → IsSized int → SkippingAgrees int
skipping_agrees int sized = record {
  whole = λ form s v h. search (arith, whole_call-is, whole_skipping);
  prefix = prefix_skipping int;
  short_whole = λ form s few. search (arith, whole_call-is, short_refused);
  short_prefix = λ form s few. search (arith, prefix_call-is, short_refused);
}
