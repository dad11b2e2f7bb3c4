-- Prefix parses: where they stop, how they agree with whole parses, and what they find.
use Rattle.std.proofs.Common.{zero, suc, is_some, ◌≡◌, ℕ, Bool, List, ◌++◌, length, take, get_or, Ok, ℤ, refl, sym, ap, ◌∙◌, arith, inl, inr, get_or-drop, take-add, add_comm, ◌+◌, ◌<◌, true, IsFalse, [], ◌∷◌, drop, IsOk, Result, Err, eq-eqb, append_assoc, append-nil, length-append, IfOk, IsTrue, OnErr, length-take-le, take-append-drop}
use Rattle.std.proofs.lemmas.Bool.{cases_lt, cases_Bool}
use Rattle.std.proofs.lemmas.List.Sums.{prefix_len-le-length, prefix_len_stops}
use Rattle.atoi_core.specs.Digit.{decimal_table, is_digit}
use Rattle.atoi_core.specs.Run.{run_len, run, value}
use Rattle.atoi_core.specs.IntType.{IntType, IsSized}
use Rattle.atoi_core.specs.Sign.{sign_of}
use Rattle.atoi_core.specs.Laws.{SignForm, sign_in, whole_call, prefix_call, PrefixIsWhole, PrefixOfCut, PrefixStopsAtRest, looked_for, given, Writes, PrefixesAndRests, AcceptedNumbers, AcceptedTexts, WholeResults, PrefixResults}
use Rattle.atoi_core.proofs.lemmas.Runs.{length-run, run_len-run, zeros-run, run_all}
use Rattle.atoi_core.proofs.lemmas.Calls.{drop-taken, length-taken, sign_again, digit_in_range, whole_call-is, from_whole, to_whole, IsFound, found_prefix, ok_prefix}
use Rattle.atoi_core.proofs.lemmas.Bounds.{long_as_whole, limit_of_prefix, in_range_short}
use Rattle.std.proofs.Math.Seq.{take-append_seam}
use Rattle.std.proofs.lemmas.List.Folds.{prefix_len-append}
use Rattle.std.proofs.lemmas.List.Prefix.{front_rest}
use Rattle.std.specs.Str.Parse.{AllDigits}
use Rattle.atoi_core.specs.Answer.{parse_answer, typed_answer, typed_prefix_answer}
use Rattle.atoi_core.specs.Text.{is_minus, sign_bytes, DigitsWrite, BeginsWithDigit, PrefixWrites}
use Rattle.atoi_core.proofs.lemmas.Texts.{digit_is, own, run_of_digits, sign_of_text, whole_written}
use Rattle.atoi_core.specs.declared.error.AtoiSimdError.{AtoiSimdError}

-- ---- Where a prefix parse stops

pub prefix_stops_at_rest : (int : IntType) → PrefixStopsAtRest int
prefix_stops_at_rest int form skip s v count h =
    let counts = (found_prefix int form skip s v count h).count_is in
    let g = sign_in int form s in
    let n = run_len decimal_table g.body in
    let parts = length-taken int form s in
    elim (cases_lt n (length g.body)) [
      | inl lt ↦
          let here : get_or g.body n 0 ≡ get_or s count 0 =
          cc (drop-taken int form s, get_or-drop g.taken s n 0, add_comm g.taken n, counts)
          in
          inr (omega arith, rw here at (prefix_len_stops (is_digit decimal_table) g.body 0 lt))
      | inr le ↦ inl (omega (arith, prefix_len-le-length (is_digit decimal_table) g.body))
    ]

pub prefix_is_whole : (int : IntType) → PrefixIsWhole int
prefix_is_whole int = record {
  whole = λ form skip s v h.
      let found = found_prefix int form skip s v (length s) h in
      let g = sign_in int form s in
      let parts = length-taken int form s in
      whole_call-is int form skip s ∙ to_whole int g.minus skip g.body v (search (arith, long_as_whole));
  back = λ form skip s v limit h.
      let g = sign_in int form s in
      let found = from_whole int g.minus skip g.body v (sym (whole_call-is int form skip s) ∙ h) in
      let parts = length-taken int form s in
      ok_prefix int form skip s v (length s) (search (arith, limit_of_prefix));
}

pub prefix_of_cut : (int : IntType) → PrefixOfCut int
prefix_of_cut int = record {
  cut = λ form skip s v count h.
      let found = found_prefix int form skip s v count h in
      let g = sign_in int form s in
      let n = run_len decimal_table g.body in
      let most = prefix_len-le-length (is_digit decimal_table) g.body in
      let parts = length-taken int form s in
      let cut : take count s ≡ take g.taken s ++ run decimal_table g.body =
      rw (found.count_is, add_comm n g.taken, take-add g.taken n s, drop-taken int form s) refl
      in
      let again : sign_in int form (take count s) ≡ record g { body = run decimal_table g.body } =
      ap (sign_in int form) cut
      ∙ sign_again int form s (run decimal_table g.body) (rw (run_len-run decimal_table g.body) found.is_prefix.some)
      in (
        omega (arith, found.count_is, found.is_prefix.some),
        omega (arith, found.count_is),
        ok_prefix int form skip (take count s) v count (rw again (search (arith, run_len-run, run_all, length-run, zeros-run))),
      );
}

-- ---- Slices and prefixes that write a number
-- With zeros skipped, exactly these are accepted.

stops : (rest : List ℕ) → ¬ BeginsWithDigit rest → run_len decimal_table rest ≡ 0
stops rest ends = grind (arith, cases_Bool, digit_in_range)

pub no_digit : (s : List ℕ) (count : ℕ)
    → (count < length s → IsFalse (is_digit decimal_table (get_or s count 0))) → ¬ BeginsWithDigit (drop count s)
no_digit [] zero h = λ digit. digit
no_digit [] (suc count) h = λ digit. digit
no_digit (byte ∷ bytes) zero h = λ digit. absurd (cc (h (omega arith), ap is_some (digit_is byte digit.0 digit.1)))
no_digit (byte ∷ bytes) (suc count) h = no_digit bytes count (λ more. h (omega arith))

module _ (digits rest : List ℕ) (all : AllDigits 10 digits) (ends : ¬ BeginsWithDigit rest) where
  pub run_len_before : run_len decimal_table (digits ++ rest) ≡ length digits
  run_len_before = search (arith, prefix_len-append, eq-eqb, run_of_digits, stops)

  pub run_before : run decimal_table (digits ++ rest) ≡ digits
  run_before = ap (λ (n : ℕ). take n (digits ++ rest)) run_len_before ∙ take-append_seam digits rest

-- Digits that write a number, then no digit: the number is found at the start.
prefix_found : (int : IntType) → IsSized int → (is_negative : Bool) (taken : ℕ) (digits rest : List ℕ) (number : ℤ)
    → DigitsWrite int is_negative digits number → ¬ BeginsWithDigit rest
    → IsFound int (record { minus = is_negative; taken = taken; body = digits ++ rest }) true number (length digits + taken)
prefix_found int sized is_negative taken digits rest number written ends =
    search (arith, own, run_len_before, run_before, limit_of_prefix, in_range_short)

pub prefix_written : (int : IntType) (form : SignForm) (skip : Bool) (s : List ℕ) (number : ℤ) (count : ℕ)
    → prefix_call int form skip s ≡ Ok (number, count) → PrefixWrites (Writes int form) s number count
prefix_written int form skip s number count h =
    let cut = (prefix_of_cut int).cut form skip s number count h in
    let to_end : prefix_call int form skip (take count s) ≡ Ok (number, length (take count s)) = rw (length-take-le count s cut.1) cut.2 in
    record {
      written = whole_written int form skip (take count s) number ((prefix_is_whole int).whole form skip (take count s) number to_end);
      some = omega (arith, cut.0);
      within = cut.1;
      ends = no_digit s count
          (λ more. elim (prefix_stops_at_rest int form skip s number count h) [ inl all ↦ absurd (omega arith) | inr end ↦ end.1 ]);
    }

pub prefix_accepted : (int : IntType) → IsSized int → (form : SignForm) (s : List ℕ) (number : ℤ) (count : ℕ)
    → PrefixWrites (Writes int form) s number count → prefix_call int form true s ≡ Ok (number, count)
prefix_accepted int sized (given is_negative) s number count h =
    let len : length (take count s) + 0 ≡ count = omega (arith, length-take-le count s h.within) in
    ok_prefix int (given is_negative) true s number count
    (rw (take-append-drop count s, len) at (prefix_found int sized is_negative 0 (take count s) (drop count s) number h.written h.ends))
prefix_accepted int sized (looked_for takes_plus) s number count h =
    let text = h.written in
    let rest = drop count s in
    let parts : s ≡ sign_bytes text.sign ++ (text.digits ++ rest) =
    sym (take-append-drop count s) ∙ ap (λ prefix_bytes. prefix_bytes ++ rest) text.parts
    ∙ append_assoc (sign_bytes text.sign) text.digits rest
    in
    let some : 0 < run_len decimal_table (text.digits ++ rest) =
    omega (arith, run_len_before text.digits rest text.written.numeral.1 h.ends, text.written.numeral.0)
    in
    let sign_is =
    ap (sign_of int.signed takes_plus) parts
    ∙ sign_of_text int.signed takes_plus text.sign (text.digits ++ rest) text.signed text.plus_taken some in
    let len : length text.digits + length (sign_bytes text.sign) ≡ count =
    omega (arith, length-take-le count s h.within, simp length-append at (ap length text.parts))
    in
    ok_prefix int (looked_for takes_plus) true s number count
    (rw sign_is (rw len at (prefix_found int sized (is_minus text.sign) (length (sign_bytes text.sign))
    text.digits rest number text.written h.ends)))

some : (int : IntType) (form : SignForm) (prefix_bytes : List ℕ) (number : ℤ)
    → Writes int form prefix_bytes number → 0 < length prefix_bytes
some int (looked_for takes_plus) prefix_bytes number h = omega (arith, ap length h.parts, length-append {A = ℕ}, h.written.numeral.0)
some int (given is_negative) prefix_bytes number h = h.numeral.0

same_answer : {E : Type 0} (a b : ℤ) (m n : ℕ) (answer : Result (ℤ × ℕ) E) → answer ≡ Ok (a, m) → answer ≡ Ok (b, n) → (a ≡ b) × (m ≡ n)
same_answer a b m n answer one other = search (arith)

pub prefixes_and_rests : (int : IntType) → IsSized int → PrefixesAndRests int
prefixes_and_rests int sized = record {
  of_parts = λ form s prefix_bytes rest number parts written ends. search (arith, some, take-append_seam, length-append, front_rest);
  only = λ form s number other count len h g. search (arith, prefix_accepted, same_answer);
  cut = λ form s prefix_bytes rest number other count parts written ends found.
      let front : PrefixWrites (Writes int form) s number (length prefix_bytes) =
      search (arith, some, take-append_seam, length-append, front_rest) in
      let same : (number ≡ other) × (length prefix_bytes ≡ count) = search (arith, prefix_accepted, same_answer) in
      (same.0, (rw (← same.1, parts, take-append_seam prefix_bytes rest) refl, rw (← same.1) (front_rest s prefix_bytes rest parts)));
}

pub accepted_numbers : (int : IntType) → IsSized int → AcceptedNumbers int
accepted_numbers int sized = record {
  written = whole_written int;
  accepted = λ form s number h.
      let all = (prefixes_and_rests int sized).of_parts form s s [] number (sym (append-nil s)) h (λ digit. digit) in
      (prefix_is_whole int).whole form true s number (prefix_accepted int sized form s number (length s) all);
}

ok_value : {A E : Type 0} (r : Result A E) → IsOk r → (x : A) × (r ≡ Ok x)
ok_value (Ok x) h = (x, refl)
ok_value (Err e) h = absurd (cc h)

pub accepted_texts : (int : IntType) → IsSized int → AcceptedTexts int
accepted_texts int sized = record {
  accepted = λ s. (
    λ h. let found = ok_value (parse_answer int true true s) h in
        record { number = found.0; written = whole_written int (looked_for true) true s found.0 found.1 },
    λ text. rw ((accepted_numbers int sized).accepted (looked_for true) s text.number text.written) refl,
  );
  number = (accepted_numbers int sized).accepted (looked_for true);
}

-- ---- Results of a type

module _ {T : Type 0} (int : IntType) (sized : IsSized int) (number : T → ℤ) (skip : Bool) where
  pub whole_results : WholeResults int number skip
  whole_results = record {
    text = λ plus. if_ok (looked_for plus);
    no_text = λ plus. on_err (looked_for plus);
    digits = λ is_negative. if_ok (given is_negative);
    no_digits = λ is_negative. on_err (given is_negative);
  }
    where
      if_ok : (form : SignForm) (s : List ℕ) (result : Result T AtoiSimdError) → typed_answer number result ≡ whole_call int form skip s
          → IfOk result (λ value. Writes int form s (number value))
      if_ok form s (Ok value) is = whole_written int form skip s (number value) (sym is)
      if_ok form s (Err error) is = tt

      on_err : (form : SignForm) (s : List ℕ) (result : Result T AtoiSimdError) → typed_answer number result ≡ whole_call int form skip s
          → IsTrue skip → OnErr result ((any : ℤ) → ¬ Writes int form s any)
      on_err form s (Ok value) is on = tt
      on_err form s (Err error) is on = λ any h.
          let found : whole_call int form skip s ≡ Ok any = rw on ((accepted_numbers int sized).accepted form s any h) in absurd (cc)

  pub prefix_results : PrefixResults int number skip
  prefix_results = record {
    text = λ plus. if_ok (looked_for plus);
    no_text = λ plus. on_err (looked_for plus);
    digits = λ is_negative. if_ok (given is_negative);
    no_digits = λ is_negative. on_err (given is_negative);
  }
    where
      if_ok : (form : SignForm) (s : List ℕ) (result : Result (T × ℕ) AtoiSimdError)
          → typed_prefix_answer number result ≡ prefix_call int form skip s
          → IfOk result (λ found. PrefixWrites (Writes int form) s (number found.0) found.1)
      if_ok form s (Ok found) is = prefix_written int form skip s (number found.0) found.1 (sym is)
      if_ok form s (Err error) is = tt

      on_err : (form : SignForm) (s : List ℕ) (result : Result (T × ℕ) AtoiSimdError)
          → typed_prefix_answer number result ≡ prefix_call int form skip s
          → IsTrue skip → OnErr result ((any : ℤ) (count : ℕ) → ¬ PrefixWrites (Writes int form) s any count)
      on_err form s (Ok found) is on = tt
      on_err form s (Err error) is on = λ any count h.
          let found : prefix_call int form skip s ≡ Ok (any, count) = rw on (prefix_accepted int sized form s any count h) in absurd (cc)
