-- Texts of numbers: std's digits, the accepted texts, and `decimal`. Numbers are below 10^64.
use Rattle.std.proofs.Common.{◌&&◌, inl, inr, ◌≡◌, ℕ, suc, ◌+◌, ◌-◌, ◌^◌, ◌<◌, ◌≤◌, Bool, true, false, cond, eqb, List, [], ◌∷◌, length, decimal, Ok, ℤ, pos, negsuc, neg_ℤ, ◌≤ℤ◌, refl, sym, ap, ◌∙◌, arith, add-one, leb→le, le-leb, lt_of_le_of_lt, Some, All, IsTrue, ◌++◌, eqb-true, ◌≢◌, zero, ◌*◌, ◌/◌, ◌%◌, get_or, append_assoc, append-nil, length-append, IsFalse}
use Rattle.std.proofs.lemmas.Bool.Decides.{nat_tests}
use Rattle.std.specs.Fmt.{signed_decimal}
use Rattle.std.specs.Str.Parse.{AllDigits, IsNumeral, digits_value, digits_value_after}
use Rattle.std.proofs.lemmas.Str.Parse.{IsNumeralModel, numerals_by_weight, tells_digits, digit_from_value}
use Rattle.std.proofs.lemmas.Fmt.{decimal_is_IsNumeral_wide, length-decimal-le_wide, decimal_digit, decimal_step_wide, decimal_by_steps_wide}
use Rattle.atoi_core.specs.Digit.{decimal_table, digit_value, is_digit}
use Rattle.atoi_core.specs.Run.{run_len, value}
use Rattle.atoi_core.specs.Magnitude.{whole, is_above}
use Rattle.atoi_core.specs.IntType.{IntType, IsSized, class_of, bound_of, limit_of}
use Rattle.atoi_core.specs.Sign.{sign_of, with_sign, plus_sign, minus_sign}
use Rattle.atoi_core.specs.Answer.{whole_answer, parse_answer}
use Rattle.atoi_core.specs.Laws.{least_of, TextOfValue, SignForm, looked_for, given, whole_call, Writes, DecimalTexts}
use Rattle.atoi_core.proofs.lemmas.Runs.{run_all, digits_all}
use Rattle.atoi_core.proofs.lemmas.Calls.{sign_of_digits, digit_in_range, from_whole, to_whole}
use Rattle.atoi_core.proofs.lemmas.Refusals.{limit_at}
use Rattle.atoi_core.proofs.lemmas.Bounds.{shorter, limit-least, short_enough, limit_of_whole, bound-limit, bound_below-64}
use Rattle.std.proofs.lemmas.Bool.{cases_Bool, and_parts}
use Rattle.atoi_core.specs.Text.{SignMark, no_sign, plus, minus, sign_bytes, is_minus, is_plus, DigitsWrite, TextWrites, BeginsWithDigit, has_needless_zero}
use Rattle.std.proofs.Math.ListN.{get_or-append}
use Rattle.std.specs.Char.{digit_value as std_digit_value}
use Rattle.std.proofs.lemmas.Str.{digit_value_digit}

-- ---- The decimal text of a number is parsed

-- A body accepted without skipping zeros is accepted with it.
pub whole_skipping : (int : IntType) (is_negative : Bool) (body : List ℕ) (v : ℤ)
    → whole_answer decimal_table int is_negative false body ≡ Ok v → whole_answer decimal_table int is_negative true body ≡ Ok v
whole_skipping int is_negative body v h =
    search (arith, from_whole, limit_of_whole, shorter, to_whole)

pub digit_is : (byte : ℕ) → 48 ≤ byte → byte ≤ 57 → decimal_table byte ≡ Some (byte - 48)
digit_is byte lo hi = rw (le-leb 48 byte lo, le-leb byte 57 hi) refl

digit_value_is : (byte : ℕ) → 48 ≤ byte → byte ≤ 57 → digit_value decimal_table byte ≡ byte - 48
digit_value_is byte lo hi = rw (digit_is byte lo hi) refl

-- The value of decimal digits is the one that std defines.
pub own : IsNumeralModel (AllDigits 10) (value decimal_table)
own = numerals_by_weight (AllDigits 10) tells_digits (value decimal_table)
    (record { empty = refl; more = λ c cs h. rw (digit_value_is c h.0 h.1) refl })

pub run_of_digits : (ds : List ℕ) → AllDigits 10 ds → run_len decimal_table ds ≡ length ds
run_of_digits [] h = refl
run_of_digits (d ∷ ds) h =
    let r = digit_from_value d h.0 in
    rw (digit_is d r.0 r.1) (omega (arith, run_of_digits ds h.1))

decimal_short : (int : IntType) → IsSized int → (is_negative skip : Bool) (n : ℕ) → n ≤ bound_of int is_negative
    → is_above (limit_at (class_of int) whole skip (limit_of int)) (length (decimal n)) ≡ false
decimal_short int sized is_negative skip n le =
    search (arith, bound-limit, short_enough, length-decimal-le_wide, limit-least, bound_below-64, lt_of_le_of_lt)

-- With skipping or without, the decimal text of a magnitude in range is parsed with its sign.
magnitude_text : (int : IntType) → IsSized int → (is_negative skip : Bool) (n : ℕ) → n ≤ bound_of int is_negative
    → whole_answer decimal_table int is_negative skip (decimal n) ≡ Ok (with_sign is_negative n)
magnitude_text int sized is_negative skip n le =
    let numeral = decimal_is_IsNumeral_wide n (lt_of_le_of_lt le (bound_below-64 int sized is_negative)) in
    let all = run_of_digits (decimal n) numeral.0.1 in
    let is_run = run_all decimal_table (decimal n) all in
    let value_is = own.same (decimal n) numeral.0.1 ∙ numeral.1 in
    to_whole int is_negative skip (decimal n) (with_sign is_negative n) (record {
      some = omega (arith, all, numeral.0.0);
      short = shorter _ (length (decimal n)) _ (omega (arith, all)) (decimal_short int sized is_negative skip n le);
      in_range = rw (is_run, value_is) le;
      all = all;
      number = rw (is_run, value_is) refl;
    })

sign_of_minus : (signed takes_plus : Bool) (digits : List ℕ) → signed ≡ true
    → sign_of signed takes_plus (45 ∷ digits) ≡ record { minus = true; taken = 1; body = digits }
sign_of_minus signed takes_plus digits h = grind (arith, nat_tests)

negative_in_range : (signed : Bool) (greatest n : ℕ) → cond signed (neg_ℤ (pos (greatest + 1))) (pos 0) ≤ℤ negsuc n
    → (signed ≡ true) × (n ≤ greatest)
negative_in_range false greatest n h = absurd h.le
negative_in_range true greatest n h = let within = rw add-one at h in (refl, leb→le n greatest within.le)

pub text_of_value : (int : IntType) → IsSized int → TextOfValue int
text_of_value int sized = record { parsed = parsed }
  where
    parsed : (skip takes_plus : Bool) (x : ℤ) → least_of int ≤ℤ x → x ≤ℤ pos int.greatest
        → parse_answer int skip takes_plus (signed_decimal x) ≡ Ok x
    parsed skip takes_plus (pos n) low high =
        let small = lt_of_le_of_lt (leb→le n int.greatest high.le) (bound_below-64 int sized false) in
        let numeral = decimal_is_IsNumeral_wide n small in
        rw (sign_of_digits int.signed takes_plus (decimal n) (omega (arith, run_of_digits (decimal n) numeral.0.1, numeral.0.0)))
        (magnitude_text int sized false skip n (leb→le n int.greatest high.le))
    parsed skip takes_plus (negsuc n) low high =
        let within = negative_in_range int.signed int.greatest n low in
        rw (sign_of_minus int.signed takes_plus (decimal (suc n)) within.0)
        (magnitude_text int sized true skip (suc n) (omega (arith, within.1)))

-- ---- Decimal digits are std's

pub to_std : (s : List ℕ) → All (λ byte. IsTrue (is_digit decimal_table byte)) s → AllDigits 10 s
to_std [] h = tt
to_std (byte ∷ bytes) h =
    tells_digits.more byte bytes (digit_in_range byte (h 0 0 (omega arith))) (to_std bytes (λ i d lt. h (suc i) d (omega arith)))

-- ---- What a whole parse accepts

-- Digits alone write a number that is not negative.
no_mark : (int : IntType) (takes_plus : Bool) (s : List ℕ) (number : ℤ)
    → DigitsWrite int false s number → TextWrites int takes_plus s number
no_mark int takes_plus s number h =
    record { sign = no_sign; digits = s; parts = refl; signed = λ e. absurd (cc e); plus_taken = λ e. absurd (cc e); written = h }

-- After a minus, digits write a negative number of a signed type.
minus_mark : (int : IntType) (takes_plus : Bool) (digits : List ℕ) (number : ℤ) → int.signed ≡ true
    → DigitsWrite int true digits number → TextWrites int takes_plus (45 ∷ digits) number
minus_mark int takes_plus digits number signed h =
    record { sign = minus; digits = digits; parts = refl; signed = λ e. signed; plus_taken = λ e. absurd (cc e); written = h }

-- `sign_of` consumes exactly an allowed sign before a digit.
pub sign_of_text : (signed takes_plus : Bool) (mark : SignMark) (digits : List ℕ) → (is_minus mark ≡ true → signed ≡ true)
    → (is_plus mark ≡ true → takes_plus ≡ true) → 0 < run_len decimal_table digits
    → sign_of signed takes_plus (sign_bytes mark ++ digits)
    ≡ record { minus = is_minus mark; taken = length (sign_bytes mark); body = digits }
sign_of_text signed takes_plus mark digits h p some = grind (arith, nat_tests, sign_of_digits signed takes_plus digits some)

-- A body accepted as a whole is digits that write its number.
digits_written : (int : IntType) (is_negative skip : Bool) (body : List ℕ) (number : ℤ)
    → whole_answer decimal_table int is_negative skip body ≡ Ok number → DigitsWrite int is_negative body number
digits_written int is_negative skip body number h =
    let found = from_whole int is_negative skip body number h in
    let is_run = run_all decimal_table body found.all in
    let digits = to_std body (digits_all decimal_table body found.all) in
    let same = own.same body digits in
    record { numeral = (omega arith, digits); in_range = rw (is_run, same) at found.in_range; value_is = rw (is_run, same) at found.number }

pub whole_written : (int : IntType) (form : SignForm) (skip : Bool) (s : List ℕ) (number : ℤ)
    → whole_call int form skip s ≡ Ok number → Writes int form s number
whole_written int (looked_for takes_plus) skip [] number h = no_mark int takes_plus [] number (digits_written int false skip [] number h)
whole_written int (looked_for takes_plus) skip (byte ∷ bytes) number h =
    elim (cases_Bool (takes_plus && eqb byte plus_sign)) [
      | inl e ↦
          let both = and_parts takes_plus (eqb byte plus_sign) e in
          record {
            sign = plus;
            digits = bytes;
            parts = rw (eqb-true byte plus_sign both.1) refl;
            signed = λ q. absurd (cc q);
            plus_taken = λ q. both.0;
            written = digits_written int false skip bytes number (rw e at h);
          }
      | inr no_plus ↦
          (elim (cases_Bool (int.signed && eqb byte minus_sign)) [
            | inl e ↦
                let both = and_parts int.signed (eqb byte minus_sign) e in
                rw (eqb-true byte minus_sign both.1)
                (minus_mark int takes_plus bytes number both.0 (digits_written int true skip bytes number (rw (no_plus, e) at h)))
            | inr no_minus ↦ no_mark int takes_plus (byte ∷ bytes) number
                (digits_written int false skip (byte ∷ bytes) number (rw (no_plus, no_minus) at h))
          ])
    ]
whole_written int (given is_negative) skip s number h = digits_written int is_negative skip s number h

-- ---- Texts without needless zeros

begins : (int : IntType) (is_negative : Bool) (digits : List ℕ) (number : ℤ)
    → DigitsWrite int is_negative digits number → BeginsWithDigit digits
begins int is_negative digits number h = grind (arith, digit_from_value)

decimal_writes : (int : IntType) → IsSized int → (is_negative : Bool) (n : ℕ) → n ≤ bound_of int is_negative
    → DigitsWrite int is_negative (decimal n) (with_sign is_negative n)
decimal_writes int sized is_negative n le =
    let numeral = decimal_is_IsNumeral_wide n (lt_of_le_of_lt le (bound_below-64 int sized is_negative)) in
    record { numeral = numeral.0; in_range = omega (arith, numeral.1); value_is = rw numeral.1 refl }

-- Not empty, and above 0 without a leading zero.
abbrev IsLed : ℕ → List ℕ → Type 0
IsLed n digits = (0 < length digits) × (0 < n → 48 < get_or digits 0 0)

led : (n : ℕ) → n < 10 ^ 64 → IsLed n (decimal n)
led n small = decimal_by_steps_wide IsLed (λ m low. (omega arith, λ above. omega arith))
    (λ m digits low h.
    let last = (48 + m % 10) ∷ [] in
    (omega (arith, length-append digits last), λ above. omega (arith, get_or-append digits last 0 0 h.0, h.1 (omega arith)))) n small

no_needless : (digits : List ℕ) → 48 < get_or digits 0 0 → IsFalse (has_needless_zero digits)
no_needless digits h = grind (arith, nat_tests)

decimal_shortest : (n : ℕ) → n < 10 ^ 64 → IsFalse (has_needless_zero (decimal n))
decimal_shortest zero small = rw (decimal_digit 0 (omega arith)) refl
decimal_shortest (suc n) small = no_needless (decimal (suc n)) ((led (suc n) small).1 (omega arith))

value_after-least : (n : ℕ) (digits : List ℕ) → n ≤ digits_value_after 10 n digits
value_after-least n [] = omega arith
value_after-least n (digit ∷ digits) = omega (arith, value_after-least (n * 10 + std_digit_value digit) digits)

-- Appended digits continue the decimal text of a number above 0.
decimal_after : (n : ℕ) (digits : List ℕ) → (0 < length digits → 0 < n) → AllDigits 10 digits → digits_value_after 10 n digits < 10 ^ 64
    → decimal (digits_value_after 10 n digits) ≡ decimal n ++ digits
decimal_after n [] some all small = sym (append-nil (decimal n))
decimal_after n (digit ∷ digits) some all small =
    let m : ℕ = n * 10 + std_digit_value digit in
    let above : 0 < n = some (omega arith) in
    let is = digit_value_digit digit (digit_from_value digit all.0) in
    let front : m / 10 ≡ n = omega (arith, all.0) in
    let end : 48 + m % 10 ≡ digit = omega (arith, all.0) in
    let step = decimal_step_wide m (omega arith) (omega (arith, value_after-least m digits)) in
    decimal_after m digits (λ more. omega arith) all.1 small ∙ rw (step, front, end, append_assoc (decimal n) (digit ∷ []) digits) refl

-- Digits without a needless zero are `decimal` of their value.
decimal_of_digits : (digits : List ℕ) → IsNumeral 10 digits → IsFalse (has_needless_zero digits) → digits_value 10 digits < 10 ^ 64
    → digits ≡ decimal (digits_value 10 digits)
decimal_of_digits [] numeral shortest small = absurd (omega (arith, numeral.0))
decimal_of_digits (digit ∷ digits) numeral shortest small =
    let first : ℕ = 0 * 10 + std_digit_value digit in
    let is = digit_value_digit digit (digit_from_value digit numeral.1.0) in
    let some : 0 < length digits → 0 < first = λ more. grind (arith, nat_tests, is, shortest) in
    let same : 48 + first ≡ digit = omega (arith, numeral.1.0) in
    sym (decimal_after first digits some numeral.1.1 small ∙ rw (decimal_digit first (omega (arith, numeral.1.0)), same) refl)

with_sign-injective : (is_negative : Bool) (m n : ℕ) → with_sign is_negative m ≡ with_sign is_negative n → m ≡ n
with_sign-injective is_negative m n h = grind arith

-- So are digits that write a number of magnitude n.
decimal_only : (int : IntType) → IsSized int → (is_negative : Bool) (digits : List ℕ) (n : ℕ)
    → DigitsWrite int is_negative digits (with_sign is_negative n) → IsFalse (has_needless_zero digits) → digits ≡ decimal n
decimal_only int sized is_negative digits n h shortest =
    search (arith, decimal_of_digits, lt_of_le_of_lt, bound_below-64, with_sign-injective)

signed_writes : (int : IntType) → IsSized int → (takes_plus : Bool) (x : ℤ) → least_of int ≤ℤ x → x ≤ℤ pos int.greatest
    → TextWrites int takes_plus (signed_decimal x) x
signed_writes int sized takes_plus (pos n) low high =
    no_mark int takes_plus (decimal n) (pos n) (decimal_writes int sized false n (leb→le n int.greatest high.le))
signed_writes int sized takes_plus (negsuc n) low high =
    let within = negative_in_range int.signed int.greatest n low in
    minus_mark int takes_plus (decimal (suc n)) (negsuc n) within.0 (decimal_writes int sized true (suc n) (omega (arith, within.1)))

minus_text : (x : ℤ) (n : ℕ) → x ≢ pos 0 → x ≡ neg_ℤ (pos n) → 45 ∷ decimal n ≡ signed_decimal x
minus_text x n some is = grind arith

-- A text without plus, needless zero or minus zero is `signed_decimal`.
signed_only : (int : IntType) → IsSized int → (s : List ℕ) (x : ℤ) (text : TextWrites int false s x)
    → IsFalse (has_needless_zero text.digits) → (is_minus text.sign ≡ true → x ≢ pos 0) → s ≡ signed_decimal x
signed_only int sized s x text shortest some =
    let n : ℕ = digits_value 10 text.digits in
    let digits : text.digits ≡ decimal n =
    decimal_of_digits text.digits text.written.numeral shortest
    (lt_of_le_of_lt text.written.in_range (bound_below-64 int sized (is_minus text.sign))) in
    text.parts ∙ ap (λ digits. sign_bytes text.sign ++ digits) digits ∙ by_sign text.sign n some text.written.value_is text.plus_taken
  where
    by_sign : (sign : SignMark) (n : ℕ) → (is_minus sign ≡ true → x ≢ pos 0) → x ≡ with_sign (is_minus sign) n
        → (is_plus sign ≡ true → false ≡ true) → sign_bytes sign ++ decimal n ≡ signed_decimal x
    by_sign no_sign n some is none = rw is refl
    by_sign plus n some is none = absurd (cc (none refl))
    by_sign minus n some is none = minus_text x n (some refl) is

pub decimal_texts : (int : IntType) → IsSized int → DecimalTexts int
decimal_texts int sized = record {
  begins = begins int;
  written = decimal_writes int sized;
  shortest = λ is_negative n le. decimal_shortest n (lt_of_le_of_lt le (bound_below-64 int sized is_negative));
  only = decimal_only int sized;
  text = signed_writes int sized;
  only_text = signed_only int sized;
}
