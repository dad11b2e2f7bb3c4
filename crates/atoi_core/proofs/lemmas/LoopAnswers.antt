-- The answers that follow from the last window of a loop over zeros.
use Rattle.std.proofs.Common.{◌≡◌, ℕ, ◌+◌, ◌*◌, ◌^◌, ◌<◌, ◌≤◌, Bool, true, List, length, take, drop, Some, Ok, Err, refl, sym, ◌∙◌, lit<, arith, ◌==◌, false, not, None, Result, if◌then◌else◌, ◌-◌, min, get_or, nat_lt, ◌&&◌, inl, inr, le-ltb}
use Rattle.std.proofs.lemmas.Bool.{cases_lt, lt-ltb}
use Rattle.std.proofs.Math.Nat.{pow-le-pow_right}
use Rattle.std.proofs.lemmas.List.{length-drop, take_all, take_rest}
use Rattle.std.proofs.lemmas.List.Sums.{prefix_len-drop_all, prefix_len-le-length}
use Rattle.atoi_core.specs.Digit.{Table, IsBelowTen, is_digit}
use Rattle.atoi_core.specs.Run.{zeros, run_len, run, value}
use Rattle.atoi_core.specs.Magnitude.{Class, wide64, wide128, prefix, rule_of, HasDigits, prefix_magnitude, narrow, whole, invalid, unless_refused, whole_magnitude, skipped_zeros, is_above}
use Rattle.atoi_core.specs.Refusal.{empty, Refusal, invalid64, invalid128, size, overflow}
use Rattle.atoi_core.specs.Reading.{cap, answer_by_digits, window_of, decision}
use Rattle.atoi_core.specs.declared.engine.window.Window.{Window}
use Rattle.atoi_core.proofs.lemmas.Refusals.{refusal-is, refused_empty, over, limit_at, significant_len, refusal-none, refused_size, refused_overflow}
use Rattle.atoi_core.proofs.lemmas.Runs.{prefix_len-take, value-take-le, value-least, run_ends, run_more, value_more}
use Rattle.atoi_core.proofs.lemmas.Readings.{within, below, short, short_below, all_decide}
use Rattle.atoi_core.specs.IntType.{IntType, IsSized, class_of, bound_of, limit_of}
use Rattle.atoi_core.proofs.lemmas.Bounds.{bound-least, limit-least, short_enough}
use Rattle.atoi_core.proofs.lemmas.Windows.{Shows, Shows-join, Shows-join_two, Skipped, shows}
use Rattle.std.proofs.lemmas.Bool.Decides.{nat_tests}

-- ---- Wide types

-- A full last window begins with no skipped zero.
none_left : {table : Table} {skip : Bool} {s : List ℕ} {at before now : ℕ} {w : Window} → Skipped table skip s at before now w → 16 ≤ w.len
    → skip ≡ true → zeros table (take 16 (drop at s)) ≡ 0
none_left {table} {s = s} {at} after_skip full on = search (arith, prefix_len-take)

pub answers_empty : {table : Table} (class : Class) (bound limit : ℕ) {skip : Bool} {s : List ℕ} {at before now : ℕ} {w : Window} →
    Skipped table skip s at before now w → at + w.len ≡ 0 → Err empty ≡ prefix_magnitude table class bound limit skip s
answers_empty {table} class bound limit {skip} {s} after_skip none = search (arith, refused_empty)

-- A last window that is not full holds the rest of the run, if there is any.
pub answers_short : {table : Table} (class : Class) (bound limit : ℕ) {skip : Bool} {s : List ℕ} {at before now : ℕ}
    {w : Window} {number len : ℕ} → limit < cap class → Skipped table skip s at before now w → w.len < 16 → 16 < limit →
    HasDigits limit bound → number ≡ w.number → len ≡ at + w.len →
    (if len == 0 then Err empty else Ok (number, len)) ≡ prefix_magnitude table class bound limit skip s
answers_short class bound limit less after_skip few long digits number_is len_is =
    let seen = after_skip.window in
    let decides = short_below class bound limit less digits after_skip.skipped seen.reading few (omega arith) seen.below in
    grind (arith, decides)

-- So do a full window and one that is not: `Ok` for 128 bits.
pub answers_two : {table : Table} → IsBelowTen table → (bound : ℕ) {skip : Bool} {s : List ℕ} {at before now : ℕ}
    {first second : Window} {number len : ℕ} → Skipped table skip s at before now first → 16 ≤ first.len →
    Shows table 16 (drop 16 (drop at s)) second → second.len < 16 → HasDigits 39 bound →
    number ≡ first.number * 10 ^ second.len + second.number → len ≡ at + (16 + second.len) →
    Ok (number, len) ≡ prefix_magnitude table wide128 bound 39 skip s
answers_two ten bound {at = at} {second = second} after_skip full following few digits number_is len_is =
    let both = Shows-join after_skip.window full following in
    let decides = short ten wide128 bound 39 (lit< tt) digits after_skip.skipped both (omega arith) (omega arith) in
    grind (arith, nat_tests, decides)

-- For 64 bits, a full window and 8 bytes decide.
pub answers_64 : {table : Table} (bound limit : ℕ) {skip : Bool} {s : List ℕ} {at before now : ℕ} {first_window back : Window} →
    limit < 24 → Skipped table skip s at before now first_window → 16 ≤ first_window.len → Shows table 8 (drop 16 (drop at s)) back →
    let number = first_window.number * 10 ^ back.len + back.number in
    (at + (16 + back.len) ≤ length s)
    × (answer_by_digits wide64 bound limit at (16 + back.len) number s ≡ prefix_magnitude table wide64 bound limit skip s)
answers_64 {table} bound limit {skip} {s} {at} less after_skip full following =
    let both = Shows-join after_skip.window full following in (
      omega (arith, after_skip.within, within both, length-drop at s),
      sym (all_decide wide64 bound limit less after_skip.skipped both (λ on. rw (none_left after_skip full on) refl)),
    )

-- For 128 bits, two full windows and 8 bytes decide.
pub answers_128 : {table : Table} → IsBelowTen table → (bound : ℕ) {skip : Bool} {s : List ℕ} {at before now high : ℕ}
    {first_window middle back : Window} → Skipped table skip s at before now first_window → 16 ≤ first_window.len →
    Shows table 16 (drop 16 (drop at s)) middle → 16 ≤ middle.len →
    Shows table 8 (drop 32 (drop at s)) back → high ≡ first_window.number * 10 ^ middle.len + middle.number →
    let number = high * 10 ^ back.len + back.number in
    (number < 10 ^ (32 + back.len)) × (at + (32 + back.len) ≤ length s)
    × (answer_by_digits wide128 bound 39 at (32 + back.len) number s ≡ prefix_magnitude table wide128 bound 39 skip s)
answers_128 {table} ten bound {skip} {s} {at} {middle = middle} after_skip full next more following high_is =
    let all = Shows-join_two after_skip.window full next more following in
    let len : middle.len ≡ 16 = omega (arith, more, next.len_is) in
    rw (high_is, len) (
      below all ten,
      omega (arith, after_skip.within, within all, length-drop at s),
      sym (all_decide wide128 bound 39 (lit< tt) after_skip.skipped all (λ on. rw (none_left after_skip full on) refl)),
    )

-- ---- From prefix to whole slice

abbrev whole_from_prefix : (ℕ → ℕ → List ℕ → Refusal) → List ℕ → Result (ℕ × ℕ) Refusal → Result ℕ Refusal
whole_from_prefix invalid s (Err reason) = Err reason
whole_from_prefix invalid s (Ok found) = if found.1 == length s then Ok found.0 else Err (invalid found.0 found.1 s)

-- The last of four tests may come after the others.
last_reason : (invalid : ℕ → ℕ → List ℕ → Refusal) (s : List ℕ) (a b c : Bool) (none long above : Refusal) (v n : ℕ) →
    unless_refused (if a then Some none else (if b then Some long else (if c then Some above
    else (if not (n == length s) then Some (invalid v n s) else None)))) v
    ≡ whole_from_prefix invalid s
    (unless_refused (if a then Some none else (if b then Some long else (if c then Some above else None))) (v, n))
last_reason invalid s a b c none long above v n = grind (arith, nat_tests)

pub whole_is_64 : (table : Table) (bound limit : ℕ) (skip : Bool) (s : List ℕ)
    → whole_magnitude table wide64 bound limit skip s ≡ whole_from_prefix invalid64 s (prefix_magnitude table wide64 bound limit skip s)
whole_is_64 table bound limit skip s = search (arith, refusal-is, last_reason)

pub whole_is_128 : (table : Table) (bound limit : ℕ) (skip : Bool) (s : List ℕ)
    → whole_magnitude table wide128 bound limit skip s ≡ whole_from_prefix invalid128 s (prefix_magnitude table wide128 bound limit skip s)
whole_is_128 table bound limit skip s = search (arith, refusal-is, last_reason)

-- ---- Narrow types

-- The slice of an overflow leaves out the zeros before the last window.
pub dropped_is : {table : Table} (skip : Bool) (limit : ℕ) {s : List ℕ} {at before now : ℕ} {w : Window} →
    Skipped table skip s at before now w → (rule_of narrow prefix skip limit (run_len table s) (skipped_zeros table skip s)).dropped ≡ at
dropped_is skip limit after_skip =
    grind (arith, nat_tests, after_skip.offset_is, after_skip.full, after_skip.skipped.asked)

least : {table : Table} {s : List ℕ} {w : Window} → Shows table 16 s w → 16 ≤ w.len → w.zeroes ≡ 0 → 10 ^ 15 ≤ w.number
least {table} {s} {w} seen full none =
    let len : w.len ≡ 16 = omega (arith, seen.len_is) in
    let some : zeros table s ≡ 0 = omega (arith, seen.zeroes_of len) in
    omega (arith, value-least table 15 s (omega (arith, seen.len_is)) some, rw len at seen.number_is)

-- At most 16 digits, or skipped zeros, are never too many.
not_too_long : (table : Table) (skip : Bool) (limit : ℕ) (s : List ℕ) → (skip ≡ false → run_len table s ≤ 16)
    → is_above (limit_at narrow prefix skip limit) (significant_len table skip s) ≡ false
not_too_long table skip limit s few = grind (arith, nat_tests)

-- If its number fits in 32 bits, the last window ends with the run.
ends : {table : Table} (skip : Bool) {s : List ℕ} {at before now : ℕ} {w : Window} →
    Skipped table skip s at before now w → (skip ≡ false → run_len table s ≤ 16) → w.number ≤ 4294967295 → run_len table (drop at s) ≡ w.len
ends false after_skip few small = omega (arith, few refl, after_skip.skipped.asked refl, after_skip.run_is, after_skip.window.len_is)
ends true {w = w} after_skip few small = search (arith, least)

-- Zeros are skipped, or the run has at most 16 digits.
module _ {table : Table} {skip : Bool} {s : List ℕ} {at before now : ℕ} {w : Window}
    (after_skip : Skipped table skip s at before now w) (few : skip ≡ false → run_len table s ≤ 16) where
  number_most : w.number ≤ value table (run table s)
  number_most =
      let seen = after_skip.window in
      omega (
        arith,
        after_skip.value_is,
        seen.number_is,
        value-take-le table (drop at s) w.len (run_len table (drop at s)) (omega (arith, seen.len_is)),
      )

  rest_is : w.number ≤ 4294967295 → (run_len table s ≡ at + w.len) × (value table (run table s) ≡ w.number)
  rest_is small =
      let rest : run_len table (drop at s) ≡ w.len = ends skip after_skip few small in
      (omega (arith, after_skip.run_is), cc (after_skip.value_is, rest, after_skip.window.number_is))

  -- With a digit, the last number decides between `Overflow` and `Ok`.
  pub narrow_after_skip : (bound limit : ℕ) → bound ≤ 4294967295 → 0 < at + w.len →
      (if nat_lt bound w.number then Err (overflow (drop at s)) else Ok (w.number, at + w.len))
      ≡ prefix_magnitude table narrow bound limit skip s
  narrow_after_skip bound limit high some =
      let digits : 0 < run_len table s = omega (arith, after_skip.run_is, after_skip.window.len_is) in
      let short = not_too_long table skip limit s few in
      let over = refused_overflow table narrow bound limit prefix skip s digits short in
      elim (cases_lt bound w.number) [
        | inl above ↦ rw (lt-ltb bound w.number above, over (omega (arith, number_most)), dropped_is skip limit after_skip) refl
        | inr fits ↦ rw (le-ltb bound w.number fits) (search (arith, rest_is, short, refusal-none))
      ]

pub narrow_size : (table : Table) (bound limit : ℕ) (skip : Bool) (s : List ℕ) → true ≡ (not skip && nat_lt 16 (run_len table s)) →
    Err (size 17 s) ≡ prefix_magnitude table narrow bound limit skip s
narrow_size table bound limit skip s long =
    let all = refused_size table narrow bound limit prefix skip s in
    grind (arith, nat_tests, all)

-- After 16 digits, a digit follows if the run is longer.
pub digit_after_16 : (table : Table) (skip : Bool) (s : List ℕ) (w : Window) → run_len table (take 16 s) ≡ 16 →
    w ≡ window_of table 8 (take (length s - 16) (drop 16 s)) → not skip ≡ true → nat_lt 0 w.len ≡ (not skip && nat_lt 16 (run_len table s))
digit_after_16 table skip s w full is counts =
    let first : 16 ≡ min 16 (run_len table s) = sym full ∙ prefix_len-take (is_digit table) 16 s in
    rw (is, take_rest s 16, prefix_len-take (is_digit table) 8 (drop 16 s), counts) (grind (arith, nat_tests))

-- ---- Narrow whole slices

module _ (table : Table) (bound limit : ℕ) (skip : Bool) (s : List ℕ) where
  -- The run decides the answer, whatever the limit and the flag.
  narrow_whole_is : (n number : ℕ) → run_len table s ≡ n → value table (take n s) ≡ number
      → decision narrow bound n number s ≡ whole_magnitude table narrow bound limit skip s
  narrow_whole_is n number at_n is_number =
      rw (refusal-is table narrow bound limit whole skip s, at_n, is_number) (grind (arith, nat_tests))

  pub narrow_whole_none : run_len table s ≡ 0 → Err empty ≡ whole_magnitude table narrow bound limit skip s
  narrow_whole_none none = narrow_whole_is 0 0 none refl

  pub narrow_whole_rest : (i number : ℕ) → 0 < i → i < length s → table (get_or s i 0) ≡ None
      → i + run_len table (drop i s) ≡ run_len table s → number ≡ value table (take i s) → number ≤ bound
      → Err (invalid64 number i s) ≡ whole_magnitude table narrow bound limit skip s
  narrow_whole_rest i number some here none so_far is_number fits =
      let all = narrow_whole_is i number (run_ends table s i here none so_far) (sym is_number) in
      grind (arith, nat_tests, all)

  -- One more digit passes the bound.
  pub narrow_whole_over : (i w : ℕ) → i < length s → table (get_or s i 0) ≡ Some w
      → i + run_len table (drop i s) ≡ run_len table s → bound < value table (take i s) * 10 + w
      → Err (overflow s) ≡ whole_magnitude table narrow bound limit skip s
  narrow_whole_over i w here digit so_far over =
      let longer : i + 1 ≤ run_len table s = omega (arith, run_more table s i w here digit so_far) in
      let most = value-take-le table s (i + 1) (run_len table s) longer in
      let above : bound < value table (take (run_len table s) s) = omega (arith, value_more table s i w here digit, most) in
      let all = narrow_whole_is (run_len table s) (value table (take (run_len table s) s)) refl refl in
      grind (arith, nat_tests, all)

  pub narrow_whole_end : (i number : ℕ) → 0 < length s → i ≤ length s → length s ≤ i
      → i + run_len table (drop i s) ≡ run_len table s → number ≡ value table (take i s) → number ≤ bound
      → Ok number ≡ whole_magnitude table narrow bound limit skip s
  narrow_whole_end i number some within all so_far is_number fits =
      let no_more : run_len table (drop i s) ≡ 0 = prefix_len-drop_all (is_digit table) s i all in
      let is = narrow_whole_is i number (omega arith) (sym is_number) in
      grind (arith, nat_tests, is)

pub narrow_decides : {table : Table} {s : List ℕ} {at before now : ℕ} {w : Window} {len : ℕ} → Skipped table true s at before now w →
    len ≡ at + w.len → (bound : ℕ) → bound ≤ 4294967295 →
    decision narrow bound len w.number s ≡ whole_magnitude table narrow bound 0 false s
narrow_decides {table} {s} {w = w} {len} after_skip len_is bound high =
    let few : true ≡ false → run_len table s ≤ 16 = λ no. absurd (cc no) in
    elim (cases_lt bound w.number) [
      | inl more ↦
          let some : 0 < w.len = grind (arith, after_skip.window.below) in
          let above : bound < value table (run table s) = omega (arith, number_most after_skip few) in
          let all = narrow_whole_is table bound 0 false s (run_len table s) (value table (run table s)) refl refl in
          let digits : 0 < run_len table s = omega (arith, after_skip.run_is, after_skip.window.len_is) in
          grind (arith, nat_tests, all)
      | inr fits ↦
          let rest = rest_is after_skip few (omega arith) in
          let all : run_len table s ≡ len = rest.0 ∙ sym len_is in
          narrow_whole_is table bound 0 false s len w.number all (rw all at rest.1)
    ]

-- ---- Whole slices of fewer than 16 bytes

-- Only two of the tests are left.
two_tests : (a d : Bool) (p t : Refusal) (v : ℕ)
    → (if a then Err p else (if d then Ok v else Err t)) ≡ unless_refused (if a then Some p else (if not d then Some t else None)) v
two_tests a d p t v = grind (arith, nat_tests)

module _ (table : Table) (ten : IsBelowTen table) (int : IntType) (s : List ℕ) (short : length s < 16) where
  few : run_len table s ≤ 15
  few = omega (arith, prefix_len-le-length (is_digit table) s)

  all : take 16 s ≡ s
  all = take_all 16 s (omega arith)

  in_range : (bound : ℕ) → 10 ^ 15 ≤ bound → nat_lt bound (value table (run table s)) ≡ false
  in_range bound enough =
      let power : 10 ^ run_len table s ≤ 10 ^ 15 = pow-le-pow_right {n = 10} (omega arith) few in
      let below = rw all at (shows {table = table} ten 16 s refl).below in
      le-ltb bound (value table (run table s)) (omega arith)

  pub short_in_range : (bound : ℕ) → HasDigits (limit_of int) bound → nat_lt bound (value table (run table (take 16 s))) ≡ false
  short_in_range bound digits =
      let long : 15 ≤ limit_of int - 1 = omega (arith, limit-least int) in
      let power : 10 ^ 15 ≤ 10 ^ (limit_of int - 1) = pow-le-pow_right {n = 10} (omega arith) long in
      rw all (in_range bound (omega (arith, digits.0)))

  pub short_decides : IsSized int → (minus skip : Bool)
      → decision (class_of int) (bound_of int minus) (run_len table (take 16 s)) (value table (run table (take 16 s))) s
      ≡ whole_magnitude table (class_of int) (bound_of int minus) (limit_of int) skip s
  short_decides sized minus skip =
      let class = class_of int in
      let bound = bound_of int minus in
      let limit = limit_of int in
      let enough = short_enough class skip limit (significant_len table skip s) (omega (arith, limit-least int, few)) in
      elim (bound-least int sized minus) [
        | inl narrow_is ↦
            rw (all, narrow_is) (narrow_whole_is table bound limit skip s (run_len table s) (value table (run table s)) refl refl)
        | inr fits ↦ rw (all, refusal-is table class bound limit whole skip s, enough, in_range bound fits) (two_tests _ _ _ _ _)
      ]
