-- What follows a number, and what an error says about digits.
use Rattle.std.proofs.Common.{◌≡◌, ℕ, ◌<◌, Bool, true, List, ◌∷◌, length, sym, ap, ◌∙◌, arith, take-append-drop}
use Rattle.std.proofs.lemmas.Bool.Decides.{nat_tests}
use Rattle.std.proofs.lemmas.Bool.{cases_lt, cases_Bool}
use Rattle.std.proofs.lemmas.List.{append_cancel_left}
use Rattle.std.proofs.lemmas.List.Prefix.{front_rest}
use Rattle.std.proofs.lemmas.List.Sums.{prefix_len-le-length, prefix_len_stops}
use Rattle.atoi_core.specs.Digit.{decimal_table, is_digit}
use Rattle.atoi_core.specs.Run.{run_len, run, value}
use Rattle.atoi_core.specs.Magnitude.{prefix, is_above}
use Rattle.atoi_core.specs.IntType.{IntType, IsSized, class_of, bound_of, limit_of}
use Rattle.atoi_core.specs.Laws.{sign_in, NumberThenByte, OneNumber, PrefixBegins, NoneOrTooLarge}
use Rattle.atoi_core.specs.Text.{BeginsWithDigit}
use Rattle.atoi_core.proofs.lemmas.Calls.{digit_in_range, found_prefix}
use Rattle.atoi_core.proofs.lemmas.Refusals.{limit_at, significant_len, refusal-is}
use Rattle.atoi_core.proofs.lemmas.Bounds.{limit_of_prefix, in_range_short}
use Rattle.atoi_core.proofs.lemmas.Texts.{digit_is, own, to_std}
use Rattle.atoi_core.proofs.lemmas.Prefixes.{prefixes_and_rests, accepted_numbers, run_before, no_digit}
use Rattle.atoi_core.proofs.lemmas.Errors.{prefix_refused}
use Rattle.atoi_core.proofs.lemmas.Runs.{length-run, run_len-run, digits_all}

-- ---- A number and what follows it

pub number_then_byte : (int : IntType) → IsSized int → NumberThenByte int
number_then_byte int sized =
    let laws = prefixes_and_rests int sized in
    record {
      exact = λ form s number byte rest not. (
        λ h. (
          length h.bytes,
          (
            laws.of_parts form s h.bytes (byte ∷ rest) number h.parts h.written (no_digit (byte ∷ rest) 0 (λ more. not)),
            front_rest s h.bytes (byte ∷ rest) h.parts,
          ),
        ),
        λ h. search (arith, take-append-drop),
      );
      cut = λ form s number other byte rest count not h found.
          let parts = laws.cut form s h.bytes (byte ∷ rest) number other count h.parts h.written
          (no_digit (byte ∷ rest) 0 (λ more. not)) found in
          (parts.0, parts.1.1);
      only = λ form s number other byte rest more not h k.
          let found = laws.of_parts form s k.bytes (byte ∷ more) other k.parts k.written (no_digit (byte ∷ more) 0 (λ all. not)) in
          let same = laws.cut form s h.bytes (byte ∷ rest) number other (length k.bytes) h.parts h.written
          (no_digit (byte ∷ rest) 0 (λ more. not)) found in
          let both : byte ∷ rest ≡ byte ∷ more = sym same.1.1 ∙ front_rest s k.bytes (byte ∷ more) k.parts in (same.0, cc);
    }

pub one_number : (int : IntType) → IsSized int → OneNumber int
one_number int sized form s number other h k =
    let found = (accepted_numbers int sized).accepted form s in cc (found number h, found other k)

-- ---- What a prefix parse says about the start of the body

begins_of_run : (s : List ℕ) → 0 < run_len decimal_table s → BeginsWithDigit s
begins_of_run s some = grind (arith, cases_Bool, digit_in_range)

run_of_begins : (s : List ℕ) → BeginsWithDigit s → 0 < run_len decimal_table s
run_of_begins s digit = grind (arith, digit_is)

pub prefix_begins : (int : IntType) → PrefixBegins int
prefix_begins int form skip s found h = search (arith, begins_of_run, found_prefix)

long_is_above : (int : IntType) → IsSized int → (is_negative : Bool) (body : List ℕ)
    → is_above (limit_at (class_of int) prefix true (limit_of int)) (significant_len decimal_table true body) ≡ true
    → bound_of int is_negative < value decimal_table (run decimal_table body)
long_is_above int sized is_negative body long = search (arith, cases_lt, limit_of_prefix, in_range_short)

pub none_or_too_large : (int : IntType) → IsSized int → NoneOrTooLarge int
none_or_too_large int sized = record {
  none = λ form skip s reason h.
      let g = sign_in int form s in
      let refused = sym (refusal-is decimal_table (class_of int) (bound_of int g.minus) (limit_of int) prefix skip g.body)
      ∙ prefix_refused int form skip s reason h in
      grind (arith, nat_tests, refused);
  too_large = λ form s reason h some.
      let g = sign_in int form s in
      let count = run_len decimal_table g.body in
      let digits = run decimal_table g.body in
      let all = to_std digits (digits_all decimal_table digits
      (run_len-run decimal_table g.body ∙ sym (length-run decimal_table g.body))) in
      let refused = sym (refusal-is decimal_table (class_of int) (bound_of int g.minus) (limit_of int) prefix true g.body)
      ∙ prefix_refused int form true s reason h in
      let above : bound_of int g.minus < value decimal_table digits =
      grind (arith, nat_tests, refused, long_is_above int sized g.minus g.body)
      in
      record {
        numeral = (omega (arith, length-run decimal_table g.body), all);
        above = rw (own.same digits all) at above;
        within = prefix_len-le-length (is_digit decimal_table) g.body;
        ends = no_digit g.body count (prefix_len_stops (is_digit decimal_table) g.body 0);
      };
  begins = λ s. (run_of_begins s, begins_of_run s);
  one_split = λ digits other rest more same all all_other ends ends_other.
      let front : digits ≡ other =
      sym (run_before digits rest all ends) ∙ ap (run decimal_table) same ∙ run_before other more all_other ends_other in
      (front, append_cancel_left other rest more (rw front at same));
}
