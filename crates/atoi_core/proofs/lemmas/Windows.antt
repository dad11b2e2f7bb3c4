-- The windows of a slice, and the loop that skips zeros window by window.
use Rattle.std.proofs.Common.{◌≡◌, ◌⊎◌, ℕ, ◌+◌, ◌-◌, ◌*◌, ◌^◌, ◌<◌, ◌≤◌, min, Bool, true, false, cond, eqb, List, length, take, drop, refl, sym, ap, ◌∙◌, subst, inl, inr, arith, ◌==◌, ◌/◌, ◌||◌, nat_lt, if◌then◌else◌}
use Rattle.std.proofs.lemmas.Bool.{cases_lt, false≢true}
use Rattle.std.proofs.lemmas.List.{drop-drop, take-take, take_rest}
use Rattle.std.proofs.lemmas.List.Sums.{prefix_len-le-length}
use Rattle.atoi_core.specs.Digit.{Table, IsBelowTen, is_digit, is_zero}
use Rattle.atoi_core.specs.Run.{run_len, run, zeros, value}
use Rattle.atoi_core.specs.Magnitude.{Class, narrow}
use Rattle.atoi_core.specs.Reading.{Reading, IsSkipped, window_of}
use Rattle.atoi_core.proofs.lemmas.Runs.{prefix_len-take, prefix_len-drop, zeros-le, value-drop_zeros}
use Rattle.atoi_core.specs.declared.engine.window.Window.{Window}
use Rattle.std.proofs.lemmas.Bool.Decides.{nat_tests}
use Rattle.atoi_core.specs.Loads.{LoadsWithin, most_loads}
use Rattle.atoi_core.proofs.lemmas.Readings.{join_readings, below}

-- ---- What a window says about its slice

-- The window `w` is a reading of the first c bytes.
pub record Shows (table : Table) (c : ℕ) (s : List ℕ) (w : Window) : Type 0 where
  pub reading : Reading table c s w.len (zeros table (take c s)) w.number
  pub len_is : w.len ≡ min c (run_len table s)
  pub number_is : w.number ≡ value table (take w.len s)
  pub below : w.number < 10 ^ w.len
  pub zeroes : w.zeroes ≤ zeros table s
  pub full : 0 < w.zeroes → w.len ≡ c
  pub zeroes_of : w.len ≡ c → w.zeroes ≡ min c (zeros table s)

-- Only a full window reports zeros.
zeros_cases : (n c z k : ℕ) → z ≡ min c k
    → (cond (n == c) z 0 ≤ k) × (0 < cond (n == c) z 0 → n ≡ c) × (n ≡ c → cond (n == c) z 0 ≡ min c k)
zeros_cases n c z k e = grind (arith, nat_tests)

-- The leading zeros of two readings in a row.
abbrev pub zeros_both : (c leading others : ℕ) → ℕ
zeros_both c leading others = cond (eqb leading c) (c + others) leading

Shows-full : {table : Table} {c : ℕ} {s : List ℕ} {w : Window} → Shows table c s w → c ≤ w.len
    → Reading table c s c (zeros table (take c s)) w.number
Shows-full seen more = search (arith)

pub Shows-join : {table : Table} {d : ℕ} {s : List ℕ} {first_window back : Window} → Shows table 16 s first_window → 16 ≤ first_window.len
    → Shows table d (drop 16 s) back
    → Reading table (16 + d) s (16 + back.len) (zeros_both 16 (zeros table (take 16 s)) (zeros table (take d (drop 16 s))))
    (first_window.number * 10 ^ back.len + back.number)
Shows-join first full second = join_readings (Shows-full first full) second.reading

pub Shows-join_two : {table : Table} {s : List ℕ} {first_window middle back : Window}
    → Shows table 16 s first_window → 16 ≤ first_window.len
    → Shows table 16 (drop 16 s) middle → 16 ≤ middle.len → Shows table 8 (drop 32 s) back
    → let others = zeros_both 16 (zeros table (take 16 s)) (zeros table (take 16 (drop 16 s))) in
    Reading table 40 s (32 + back.len) (zeros_both 32 others (zeros table (take 8 (drop 32 s))))
    ((first_window.number * 10 ^ 16 + middle.number) * 10 ^ back.len + back.number)
Shows-join_two first full second more third = join_readings (join_readings (Shows-full first full) (Shows-full second more)) third.reading

pub two_full : {table : Table} (s : List ℕ) {first second : Window} → Shows table 16 s first → 16 ≤ first.len
    → Shows table 16 (drop 16 s) second → 16 ≤ second.len → 32 ≤ run_len table s
two_full {table} s seen full next more = omega (arith, prefix_len-drop (is_digit table) 16 s (omega (arith, seen.len_is)), next.len_is)

module _ {table : Table} (ten : IsBelowTen table) where
  shows_of : (c : ℕ) (s : List ℕ) → Shows table c s (window_of table c s)
  shows_of c s =
      let n : ℕ = run_len table (take c s) in
      let len : n ≡ min c (run_len table s) = prefix_len-take (is_digit table) c s in
      let reading : Reading table c s n (zeros table (take c s)) (value table (take n (take c s))) =
      record { digits_are = refl; leading_are = refl; number_is = refl } in
      let seen = zeros_cases n c (zeros table (take c s)) (zeros table s) (prefix_len-take (is_zero table) c s) in
      record {
        reading = reading;
        len_is = len;
        number_is = ap (value table) (take-take n c s (omega arith));
        below = below reading ten;
        zeroes = seen.0;
        full = seen.1;
        zeroes_of = seen.2;
      }

  pub shows : (c : ℕ) (s : List ℕ) {w : Window} → w ≡ window_of table c s → Shows table c s w
  shows c s e = let P : Window → Type 0 = λ v. Shows table c s v in subst P (sym e) (shows_of c s)

  pub shows_rest : (c : ℕ) (s : List ℕ) (at : ℕ) {w : Window} →
      w ≡ window_of table c (take (length s - at) (drop at s)) → Shows table c (drop at s) w
  shows_rest c s at e = shows c (drop at s) (e ∙ ap (window_of table c) (take_rest s at))

  pub shows_following : (c k : ℕ) (s : List ℕ) (at : ℕ) {w : Window} →
      w ≡ window_of table c (take (length s - (at + k)) (drop (at + k) s)) → Shows table c (drop k (drop at s)) w
  shows_following c k s at e =
      shows c (drop k (drop at s)) (e ∙ ap (window_of table c) (take_rest s (at + k) ∙ sym (drop-drop k at s)))

-- ---- The loop that skips zeros

-- Before a load at offset `at`, after one load for each 16 zeros, and one for fewer.
pub record Skipping (table : Table) (skip : Bool) (s : List ℕ) (at before now : ℕ) : Type 0 where
  pub skipped : IsSkipped table skip s at
  pub within : at ≤ length s
  pub most : 16 * now ≤ 16 * before + at + 15
  pub least : at + 16 * before ≤ 16 * now
  pub offset_is : (16 * now ≡ 16 * before + at) ⊎ ((at ≡ zeros table s) × (zeros table s / 16 < run_len table s / 16))

pub Skipping-none : (table : Table) (skip : Bool) (s : List ℕ) (n : ℕ) → Skipping table skip s 0 n n
Skipping-none table skip s n = search arith

-- After the loop: the last window is at `at`, and if full begins with a significant digit.
pub record Skipped (table : Table) (skip : Bool) (s : List ℕ) (at before now : ℕ) (w : Window) : Type 0 where
  pub window : Shows table 16 (drop at s) w
  pub skipped : IsSkipped table skip s at
  pub within : at ≤ length s
  pub run_is : run_len table s ≡ at + run_len table (drop at s)
  pub zeros_are : zeros table s ≡ at + zeros table (drop at s)
  pub value_is : value table (run table s) ≡ value table (run table (drop at s))
  pub full : skip ≡ true → w.len ≡ 16 → at ≡ zeros table s
  pub last : skip ≡ true → w.zeroes ≡ 0
  pub more : before < now
  pub most : 16 * now ≤ 16 * before + zeros table s + 31
  pub least : skip ≡ true → zeros table s + 16 * before ≤ 16 * now
  pub offset_is : skip ≡ true → (at ≡ 16 * (zeros table s / 16)) ⊎ ((at ≡ zeros table s) × (zeros table s / 16 < run_len table s / 16))

pub Skipped-full : {table : Table} {skip : Bool} {s : List ℕ} {at before now : ℕ} {w : Window}
    → Skipped table skip s at before now w → 16 ≤ w.len → at + 16 ≤ length s
Skipped-full {table} {s = s} after_skip full =
    omega (arith, after_skip.window.len_is, after_skip.run_is, prefix_len-le-length (is_digit table) s)

-- After the loop, `more` windows are loaded.
pub Skipped-loads : {table : Table} {skip : Bool} {s : List ℕ} {at before now last most : ℕ} {w : Window} →
    Skipped table skip s at before now w → (more : ℕ) → last ≡ now + more → zeros table s / 16 + 2 + more ≤ most →
    LoadsWithin most table skip s before last
Skipped-loads after_skip more counted bounded = search (arith, after_skip.least)

-- A narrow prefix: one window, and a second to count unskipped digits.
pub Skipped-one : {table : Table} (skip : Bool) {s : List ℕ} {at before now last : ℕ} {w : Window} → Skipped table skip s at before now w →
    now ≡ before + 1 → last ≡ now + (if skip || nat_lt (run_len table s) 16 then 0 else 1) →
    LoadsWithin (most_loads table narrow s) table skip s before last
Skipped-one true after_skip one counted = search (arith, after_skip.least)
Skipped-one false after_skip one counted = grind (arith, nat_tests)

module _ {table : Table} (ten : IsBelowTen table) where
  -- The zeros that a window reports are skipped by one load.
  pub Skipping-next : {skip : Bool} {s : List ℕ} {at after before now next : ℕ} {w : Window} → Skipping table skip s at before now →
      w ≡ window_of table 16 (take (length s - at) (drop at s)) → next ≡ now + 1 → skip ≡ true → 0 < w.zeroes → after ≡ at + w.zeroes →
      Skipping table skip s after before next
  Skipping-next {s = s} {at} {after} {before} {now} {next} {w} so_far e one on some turn =
      let zeros_only = so_far.skipped.zeros_only in
      let seen : Shows table 16 (drop at s) w = shows_rest ten 16 s at e in
      let zeros_are : zeros table s ≡ at + zeros table (drop at s) = prefix_len-drop (is_zero table) at s zeros_only in
      let run_is : run_len table s ≡ at + run_len table (drop at s) =
      prefix_len-drop (is_digit table) at s (omega (arith, zeros_only, zeros-le table s)) in
      let reported : w.zeroes ≡ min 16 (zeros table s - at) = omega (arith, seen.full some) in
      let full : at + 16 ≤ run_len table s = omega (arith, seen.full some) in
      let cases = cases_lt w.zeroes 16 in
      search (arith, zeros-le, prefix_len-le-length, false≢true)

  pub Skipped-end : {skip : Bool} {s : List ℕ} {at start now before next : ℕ} {w : Window} →
      Skipping table skip s at start now → w ≡ window_of table 16 (take (length s - at) (drop at s)) → next + start ≡ now + before + 1 →
      (skip ≡ false) ⊎ ((skip ≡ true) × (w.zeroes ≡ 0)) → Skipped table skip s at before next w
  Skipped-end {skip} {s} {at} {start} {now} {before} {next} {w} after_skip e one stops =
      let last : skip ≡ true → w.zeroes ≡ 0 =
      λ h. elim stops [ inl k ↦ absurd (false≢true (sym k ∙ h)) | inr k ↦ k.1 ] in
      let seen : Shows table 16 (drop at s) w = shows_rest ten 16 s at e in
      let zeros_are : zeros table s ≡ at + zeros table (drop at s) = prefix_len-drop (is_zero table) at s after_skip.skipped.zeros_only in
      let run_is : run_len table s ≡ at + run_len table (drop at s) =
      prefix_len-drop (is_digit table) at s (omega (arith, after_skip.skipped.zeros_only, zeros-le table s)) in
      let zero_most : zeros table (drop at s) ≤ run_len table (drop at s) = zeros-le table (drop at s) in
      let full : skip ≡ true → w.len ≡ 16 → at ≡ zeros table s = λ h k. omega (arith, last h, seen.zeroes_of k) in
      let short : w.len < 16 → zeros table (drop at s) < 16 = λ h. omega (arith, seen.len_is) in
      let many = cases_lt w.len 16 in
      let value_is = value-drop_zeros table at s after_skip.skipped.zeros_only in
      search (arith, value_is, last, short, full, after_skip.skipped.asked)

  -- After `window_after_zeros`; one load more, for the window before that call.
  pub Skipped-after_zeros : (s : List ℕ) {at : ℕ} (before : ℕ) {now : ℕ} {w : Window} →
      at ≡ (if nat_lt (zeros table s / 16) (run_len table s / 16) then zeros table s else 16 * (zeros table s / 16)) →
      w ≡ window_of table 16 (drop at s) → w.zeroes ≡ 0 → now ≡ before + (at + 15) / 16 → Skipped table true s at before (now + 1) w
  Skipped-after_zeros s {at} before {now} {w} offset e none loads =
      let skipping : Skipping table true s at before now =
      search (arith, nat_tests, zeros-le table s, prefix_len-le-length (is_digit table) s) in
      Skipped-end skipping (e ∙ ap (window_of table 16) (sym (take_rest s at))) (omega arith) (inr (refl, none))

  pub Skipping-first_window : (s : List ℕ) (n reported : ℕ) → reported ≡ (window_of table 16 s).zeroes → 0 < reported →
      Skipping table true s reported n (n + 1)
  Skipping-first_window s n reported e some =
      Skipping-next (Skipping-none table true s n) (ap (window_of table 16) (sym (take_rest s 0))) refl refl (omega arith) (omega arith)

  pub Skipped-at_once : (skip : Bool) (s : List ℕ) {before next : ℕ} {w : Window} →
      w ≡ window_of table 16 s → next ≡ before + 1 → (skip ≡ false) ⊎ ((skip ≡ true) × (w.zeroes ≡ 0)) →
      Skipped table skip s 0 before next w
  Skipped-at_once skip s {before} e one stops =
      Skipped-end (Skipping-none table skip s before) (e ∙ ap (window_of table 16) (sym (take_rest s 0))) (omega (arith, one)) stops

  -- A first window that is not full reports no zeros.
  pub Skipped-first : (skip : Bool) (s : List ℕ) {before next : ℕ} {w : Window} →
      w ≡ window_of table 16 s → next ≡ before + 1 → w.len < 16 → Skipped table skip s 0 before next w
  Skipped-first skip s {w = w} e one short =
      let full = (shows ten 16 s e).full in
      let stops : (skip ≡ false) ⊎ ((skip ≡ true) × (w.zeroes ≡ 0)) = grind (arith, nat_tests, full) in
      Skipped-at_once skip s e one stops

  -- A short slice fills no window.
  pub Skipped-short : (skip : Bool) (s : List ℕ) {before next : ℕ} {w : Window} →
      w ≡ window_of table 16 s → next ≡ before + 1 → length s < 16 → Skipped table skip s 0 before next w
  Skipped-short skip s e one short =
      Skipped-first skip s e one (omega (arith, short, (shows ten 16 s e).len_is, prefix_len-le-length (is_digit table) s))

pub short_loads : (table : Table) (class : Class) (skip : Bool) (s : List ℕ) {before after : ℕ} → length s < 16 → after ≡ before + 1
    → LoadsWithin (most_loads table class s) table skip s before after
short_loads table class skip s short one = grind (arith, nat_tests, prefix_len-le-length (is_zero table) s)
