-- A text has at most one fault, and no fault if it is a number, or for a prefix begins with a number. The sign, the
-- digits after it and their value decide which.
use Rattle.std.proofs.Common.{◌≡◌, ℕ, ◌+◌, ◌<◌, ◌≤◌, Bool, true, false, cond, eqb, ltb, List, length, take, drop, Option, None, Some, Ok, Err, ℤ, refl, sym, ap, ◌∙◌, arith, take-append-drop, eq-eqb, eqb-true, ne_eqb, le-ltb, subst, add_comm, inl, inr}
use Rattle.std.proofs.lemmas.Bool.{eqb-false, lt-ltb, cases_lt, cases_Bool}
use Rattle.std.proofs.lemmas.Bool.Decides.{nat_tests}
use Rattle.std.proofs.lemmas.List.Sums.{prefix_len-le-length, prefix_len_stops}
use Rattle.atoi_core.specs.Answer.{parse_answer}
use Rattle.atoi_core.specs.Digit.{decimal_table, is_digit}
use Rattle.atoi_core.specs.IntType.{IntType, IsSized, class_of, bound_of, limit_of}
use Rattle.atoi_core.specs.Laws.{looked_for}
use Rattle.atoi_core.specs.Magnitude.{whole, prefix, is_above}
use Rattle.atoi_core.specs.Refusal.{Refusal, empty, size, overflow, invalid64, invalid128}
use Rattle.atoi_core.specs.Run.{run_len, run, value}
use Rattle.atoi_core.specs.Sign.{Sign, sign_of, with_sign}
use Rattle.atoi_core.specs.Text.{BeginsWithDigit, TextWrites, PrefixWrites}
use Rattle.atoi_core.proofs.lemmas.Bounds.{limit_of_prefix, in_range_short}
use Rattle.atoi_core.proofs.lemmas.Calls.{digit_in_range, length-taken, map_unless_err, whole_call-is, from_whole, IsFound, found_prefix, ok_prefix, signed_value}
use Rattle.atoi_core.proofs.lemmas.Numbers.{none_or_too_large}
use Rattle.atoi_core.proofs.lemmas.Prefixes.{accepted_numbers, prefix_written, prefix_accepted, run_before, no_digit}
use Rattle.atoi_core.proofs.lemmas.Refusals.{limit_at, significant_len, refused, refusal-is}
use Rattle.atoi_core.proofs.lemmas.Runs.{length-run, run_len-run, digits_all}
use Rattle.atoi_core.proofs.lemmas.Texts.{own, to_std}
use Rattle.atoi_formats.specs.Ascii.{HasNoDigit, HasByteAfter, IsOutOfRange, IsWholeFault, IsPrefixFault, int_error, range_fault, error_of_prefix, FailsIff}
use Rattle.atoi_formats.specs.declared.int_error.Fault.{Fault}
use Rattle.atoi_formats.specs.declared.int_error.Fault.TheVariants.{Empty, NoDigit, UnexpectedByte, TooLarge, TooSmall}
use Rattle.atoi_formats.specs.declared.int_error.IntError.{IntError}

abbrev signed_fault : (is_negative : Bool) → Fault
signed_fault true = TooSmall
signed_fault false = TooLarge

-- Before a digit, a minus at the start is the sign.
sign_decides : (signed : Bool) (text : List ℕ) → 0 < run_len decimal_table (sign_of signed true text).body
    → range_fault text ≡ signed_fault (sign_of signed true text).minus
sign_decides signed text some = grind (arith, nat_tests, cases_Bool, digit_in_range)

module _ (int : IntType) (sized : IsSized int) (text : List ℕ) where
  abbrev pub sign : Sign
  sign = sign_of int.signed true text

  abbrev pub digits : ℕ
  digits = run_len decimal_table sign.body

  abbrev pub number : ℕ
  number = value decimal_table (run decimal_table sign.body)

  abbrev is_over : Bool
  is_over = ltb (bound_of int sign.minus) number

  -- The fault of a whole text, and where it is.
  abbrev whole_fault : Option (Fault × ℕ)
  whole_fault = cond (eqb digits 0) (Some (cond (eqb (length text) 0) Empty NoDigit, sign.taken))
      (cond is_over (Some (signed_fault sign.minus, 0))
      (cond (ltb (sign.taken + digits) (length text)) (Some (UnexpectedByte, sign.taken + digits)) None))

  -- The same of the start of a text.
  abbrev prefix_fault : Option (Fault × ℕ)
  prefix_fault = cond (eqb digits 0) (Some (cond (eqb sign.taken (length text)) Empty NoDigit, sign.taken))
      (cond is_over (Some (signed_fault sign.minus, 0)) None)

  -- ---- What the sign and the digits say

  no_run : ¬ BeginsWithDigit sign.body → digits ≡ 0
  no_run none = let begins = (none_or_too_large int sized).begins sign.body in grind (arith, begins, none)

  pub without_run : digits ≡ 0 → HasNoDigit int text sign.taken
  without_run none = record {
    after_sign = refl;
    none = λ begins. absurd (omega (arith, ((none_or_too_large int sized).begins sign.body).0 begins));
  }

  pub out_of_range : 0 < digits → bound_of int sign.minus < number → IsOutOfRange int sign.minus text
  out_of_range some above =
      let front = run decimal_table sign.body in
      let all = to_std front (digits_all decimal_table front
      (run_len-run decimal_table sign.body ∙ sym (length-run decimal_table sign.body))) in
      record {
        sign_is = refl;
        count = digits;
        above = record {
          numeral = (omega (arith, length-run decimal_table sign.body), all);
          above = rw (own.same front all) at above;
          within = prefix_len-le-length (is_digit decimal_table) sign.body;
          ends = no_digit sign.body digits (prefix_len_stops (is_digit decimal_table) sign.body 0);
        };
      }

  over : {is_negative : Bool} → IsOutOfRange int is_negative text → (0 < digits) × (bound_of int is_negative < number)
  over {is_negative} h =
      let front = take h.count sign.body in
      let same : run decimal_table sign.body ≡ front =
      rw (take-append-drop h.count sign.body) at (run_before front (drop h.count sign.body) h.above.numeral.1 h.above.ends) in (
        omega (arith, length-run decimal_table sign.body, ap length same, h.above.numeral.0),
        rw (same, own.same front h.above.numeral.1) h.above.above,
      )

  found_before : {v : ℤ} {count : ℕ} → PrefixWrites (TextWrites int true) text v count → IsFound int sign true v count
  found_before {v} {count} before =
      found_prefix int (looked_for true) true text v count (prefix_accepted int sized (looked_for true) text v count before)

  -- Digits in range write a number.
  starts : 0 < digits → number ≤ bound_of int sign.minus
      → PrefixWrites (TextWrites int true) text (signed_value int sign.minus true sign.body) (sign.taken + digits)
  starts some within =
      let v : ℤ = signed_value int sign.minus true sign.body in
      let short : is_above (limit_at (class_of int) prefix true (limit_of int)) (significant_len decimal_table true sign.body) ≡ false =
      rw (limit_of_prefix int true (limit_of int) (inl refl)) (in_range_short decimal_table int sized sign.minus sign.body within) in
      let found = ok_prefix int (looked_for true) true text v (sign.taken + digits) (record {
        is_prefix = record { some = some; short = short; in_range = within; ends = refl };
        number = refl;
        count_is = add_comm sign.taken digits;
      }) in
      prefix_written int (looked_for true) true text v (sign.taken + digits) found

  byte_after : 0 < digits → number ≤ bound_of int sign.minus → digits < length sign.body
      → HasByteAfter int text (sign.taken + digits)
  byte_after some within more = record {
    number = signed_value int sign.minus true sign.body;
    before = starts some within;
    more = omega (arith, length-taken int (looked_for true) text);
  }

  -- ---- A fault decides itself

  whole_is : (fault : Fault) (offset : ℕ) → IsWholeFault int text fault offset → whole_fault ≡ Some (fault, offset)
  whole_is Empty offset h = rw (h.0, h.1) refl
  whole_is NoDigit offset h = rw (no_run h.0.none, h.0.after_sign, ne_eqb (length text) 0 (omega arith)) refl
  whole_is UnexpectedByte offset h =
      let found = found_before h.before in
      let place : offset ≡ sign.taken + digits = omega (arith, found.count_is) in
      let more = lt-ltb (sign.taken + digits) (length text) (omega (arith, h.more)) in
      rw (place, ne_eqb digits 0 (omega (arith, found.is_prefix.some)), le-ltb _ _ found.is_prefix.in_range, more) refl
  whole_is TooLarge offset h =
      let is = over h.0 in rw (h.1, h.0.sign_is, ne_eqb digits 0 (omega (arith, is.0)), lt-ltb _ _ is.1) refl
  whole_is TooSmall offset h =
      let is = over h.0 in rw (h.1, h.0.sign_is, ne_eqb digits 0 (omega (arith, is.0)), lt-ltb _ _ is.1) refl

  prefix_is : (fault : Fault) (offset : ℕ) → IsPrefixFault int text fault offset → prefix_fault ≡ Some (fault, offset)
  prefix_is Empty offset h = rw (no_run h.0.none, ← h.0.after_sign, h.1, eq-eqb (length text) (length text) refl) refl
  prefix_is NoDigit offset h = rw (no_run h.0.none, ← h.0.after_sign, ne_eqb offset (length text) (omega arith)) refl
  prefix_is UnexpectedByte offset h = absurd h
  prefix_is TooLarge offset h =
      let is = over h.0 in rw (h.1, h.0.sign_is, ne_eqb digits 0 (omega (arith, is.0)), lt-ltb _ _ is.1) refl
  prefix_is TooSmall offset h =
      let is = over h.0 in rw (h.1, h.0.sign_is, ne_eqb digits 0 (omega (arith, is.0)), lt-ltb _ _ is.1) refl

  -- ---- Reasons

  over_whole : 0 < digits → bound_of int sign.minus < number → IsWholeFault int text (range_fault text) 0
  over_whole some above = grind (arith, nat_tests, cases_Bool, sign_decides int.signed text some, out_of_range some above)

  -- A number with too many digits is out of range.
  long_is_over : is_above (limit_at (class_of int) whole true (limit_of int)) (significant_len decimal_table true sign.body) ≡ true
      → bound_of int sign.minus < number
  long_is_over long = search (arith, cases_lt, in_range_short)

  -- What the reason says for which the whole text is refused.
  abbrev pub WholeReason : Refusal → Type 0
  WholeReason empty = (digits ≡ 0) × HasNoDigit int text sign.taken
  WholeReason (size count input) = IsWholeFault int text (range_fault text) 0
  WholeReason (overflow input) = IsWholeFault int text (range_fault text) 0
  WholeReason (invalid64 v index input) = (0 < digits) × HasByteAfter int text (sign.taken + digits)
  WholeReason (invalid128 v index input) = (0 < digits) × HasByteAfter int text (sign.taken + digits)

  whole_refused : (reason : Refusal) → parse_answer int true true text ≡ Err reason
      → refused decimal_table int sign.minus whole true sign.body ≡ Some reason
  whole_refused reason h =
      map_unless_err (with_sign sign.minus) (refused decimal_table int sign.minus whole true sign.body) number reason
      (sym (whole_call-is int (looked_for true) true text) ∙ h)

  pub whole_reason : (reason : Refusal) → parse_answer int true true text ≡ Err reason → WholeReason reason
  whole_reason reason h =
      let is = sym (refusal-is decimal_table (class_of int) (bound_of int sign.minus) (limit_of int) whole true sign.body)
      ∙ whole_refused reason h in
      let le = prefix_len-le-length (is_digit decimal_table) sign.body in
      grind (arith, nat_tests, is, long_is_over, le, without_run, over_whole, byte_after)

  -- ---- A start that is refused

  over_prefix : 0 < digits → bound_of int sign.minus < number → IsPrefixFault int text (range_fault text) 0
  over_prefix some above = grind (arith, nat_tests, cases_Bool, sign_decides int.signed text some, out_of_range some above)

  none_prefix : HasNoDigit int text sign.taken → IsPrefixFault int text (cond (eqb (length sign.body) 0) Empty NoDigit) sign.taken
  none_prefix none =
      grind (arith, nat_tests, none, length-taken int (looked_for true) text)

  pub prefix_error : ((v : ℤ) (count : ℕ) → ¬ PrefixWrites (TextWrites int true) text v count)
      → IsPrefixFault int text (error_of_prefix int.signed text).fault (error_of_prefix int.signed text).offset
  prefix_error refused = elim (cases_Bool (eqb digits 0)) [
    | inl is ↦ rw is (none_prefix (without_run (eqb-true digits 0 is)))
    | inr not ↦
        let some : 0 < digits = omega (arith, eqb-false digits 0 not) in
        let above : bound_of int sign.minus < number =
        elim (cases_lt (bound_of int sign.minus) number) [ inl lt ↦ lt | inr le ↦ absurd (refused _ _ (starts some le)) ] in
        rw not (over_prefix some above)
  ]

-- ---- What a result says

module _ {A : Type 0} (P : Fault → ℕ → Type 0) (decided : Option (Fault × ℕ))
    (decides : (fault : Fault) (offset : ℕ) → P fault offset → decided ≡ Some (fault, offset)) where
  fails : (error : IntError) → P error.fault error.offset → (fault : Fault) → FailsIff {A = A} (Err error) fault (P fault)
  fails error holds fault offset = (
    λ same. let is : error ≡ int_error fault offset = cc in subst (λ (e : IntError). P e.fault e.offset) is holds,
    λ other.
        let both : Some (error.fault, error.offset) ≡ Some (fault, offset) =
        sym (decides error.fault error.offset holds) ∙ decides fault offset other in
        let pair : (error.fault, error.offset) ≡ (fault, offset) = cc in
        ap (λ (p : Fault × ℕ). Err (int_error p.0 p.1)) pair,
  )

  accepts : (returned : A) → decided ≡ None → (fault : Fault) → FailsIff (Ok returned) fault (P fault)
  accepts returned none fault offset = (λ same. absurd (cc), λ other. absurd (cc (none, decides fault offset other)))

module _ {int : IntType} (sized : IsSized int) (text : List ℕ) {A : Type 0} where
  pub whole_fails : (error : IntError) → IsWholeFault int text error.fault error.offset
      → (fault : Fault) → FailsIff {A = A} (Err error) fault (IsWholeFault int text fault)
  whole_fails error holds = fails (IsWholeFault int text) (whole_fault int sized text) (whole_is int sized text) error holds

  pub prefix_fails : (error : IntError) → IsPrefixFault int text error.fault error.offset
      → (fault : Fault) → FailsIff {A = A} (Err error) fault (IsPrefixFault int text fault)
  prefix_fails error holds = fails (IsPrefixFault int text) (prefix_fault int sized text) (prefix_is int sized text) error holds

  pub whole_accepts : (returned : A) {v : ℤ} → TextWrites int true text v
      → (fault : Fault) → FailsIff (Ok returned) fault (IsWholeFault int text fault)
  whole_accepts returned {v} written =
      let g = sign_of int.signed true text in
      let is = from_whole int g.minus true g.body v
      (sym (whole_call-is int (looked_for true) true text) ∙ (accepted_numbers int sized).accepted (looked_for true) text v written) in
      let some = ne_eqb (run_len decimal_table g.body) 0 (omega (arith, is.some)) in
      let taken = length-taken int (looked_for true) text in
      let all = le-ltb (g.taken + run_len decimal_table g.body) (length text) (omega (arith, is.all, taken)) in
      let none : whole_fault int sized text ≡ None = rw (some, le-ltb _ _ is.in_range, all) refl in
      accepts (IsWholeFault int text) (whole_fault int sized text) (whole_is int sized text) returned none

  pub prefix_accepts : (returned : A) {v : ℤ} {count : ℕ} → PrefixWrites (TextWrites int true) text v count
      → (fault : Fault) → FailsIff (Ok returned) fault (IsPrefixFault int text fault)
  prefix_accepts returned {v} {count} before =
      let is = (found_before int sized text before).is_prefix in
      let g = sign_of int.signed true text in
      let none : prefix_fault int sized text ≡ None =
      rw (ne_eqb (run_len decimal_table g.body) 0 (omega (arith, is.some)), le-ltb _ _ is.in_range) refl in
      accepts (IsPrefixFault int text) (prefix_fault int sized text) (prefix_is int sized text) returned none
