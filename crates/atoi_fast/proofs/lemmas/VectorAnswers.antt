-- The answers that windows of 16 and of 32 bytes decide, and how many loads that takes.
use Rattle.std.proofs.Common.{◌≡◌, ◌⊎◌, ℕ, ◌+◌, ◌-◌, ◌*◌, ◌^◌, ◌<◌, ◌≤◌, Bool, true, false, cond, eqb, List, [], ◌∷◌, slice_index_or, length, take, drop, min, Ok, Err, refl, sym, ap, inl, inr, arith, lit<, take-take, zero-add, drop-drop, length-drop}
use Rattle.std.proofs.lemmas.Bool.{cases_lt, ne_eqb}
use Rattle.std.proofs.lemmas.Bool.Decides.{nat_tests}
use Rattle.atoi_core.specs.Digit.{decimal_table, is_digit}
use Rattle.atoi_core.specs.Loads.{LoadsWithin}
use Rattle.atoi_core.specs.Magnitude.{Class, HasDigits, wide64, wide128, prefix_magnitude}
use Rattle.atoi_core.specs.Reading.{Reading, IsSkipped, answer_by_digits, cap, window_of}
use Rattle.atoi_core.specs.Refusal.{empty}
use Rattle.atoi_core.specs.Run.{run_len, zeros, value}
use Rattle.atoi_core.specs.declared.engine.window.Window.{Window}
use Rattle.atoi_core.proofs.lemmas.Readings.{all_decide, below, decided, join_readings, short, within, zeros_left}
use Rattle.atoi_core.proofs.lemmas.Runs.{decimal_below_ten, prefix_len-take}
use Rattle.atoi_fast.specs.Vectors.{ReadsAfterZeros}
use Rattle.atoi_fast.specs.declared.vectors.window_32.Window32.{Window32}

pub start : (skip : Bool) (s : List ℕ) → IsSkipped decimal_table skip s 0
start skip s = search arith

-- The readings of a window, and of a whole run.
pub reading_of_window : {size : ℕ} {s : List ℕ} {w : Window} → w ≡ window_of decimal_table size s
    → Reading decimal_table size s w.len (zeros decimal_table (take size s)) w.number
reading_of_window e = record { digits_are = ap (λ v. v.len) e; leading_are = refl; number_is = ap (λ v. v.number) e }

pub reading_of_run : (count : ℕ) (s : List ℕ) {len number : ℕ}
    → len ≡ min count (run_len decimal_table s) → number ≡ value decimal_table (take len s)
    → Reading decimal_table count s len (zeros decimal_table (take count s)) number
reading_of_run count s {len} len_is number_is =
    let digits : len ≡ run_len decimal_table (take count s) = omega (arith, len_is, prefix_len-take (is_digit decimal_table) count s) in
    record { digits_are = digits; leading_are = refl; number_is = cc (number_is, digits, take-take len count s (omega arith)) }

-- Fewer than 16 digits of 16 bytes need no second load.
pub one_load : {most : ℕ} {skip : Bool} {s : List ℕ} {before after len leading number : ℕ}
    → Reading decimal_table 16 s len leading number → len < 16
    → after ≡ before + 1 → 1 ≤ most → LoadsWithin most decimal_table skip s before after
one_load {s = s} reading few one room =
    let none : zeros decimal_table s < 32 =
    omega (arith, within reading, reading.leading_are, zeros_left decimal_table 16 s 0 (omega arith)) in
    search arith

-- They spell the answer.
pub ended_in_16 : (class : Class) (bound limit : ℕ) → limit < cap class → 16 ≤ limit
    → HasDigits limit bound → (skip : Bool) {s : List ℕ} {len leading number : ℕ}
    → Reading decimal_table 16 s len leading number → len < 16
    → cond (eqb len 0) (Err empty) (Ok (number, len)) ≡ prefix_magnitude decimal_table class bound limit skip s
ended_in_16 class bound limit less enough digits skip {len = len} reading few =
    sym (rw (zero-add len) at (short decimal_below_ten class bound limit less digits (start skip _) reading few (omega arith)).1)

-- So does a run of 1 to 31 digits, for 128 bits.
pub ended_in_32 : (bound : ℕ) {s : List ℕ} {len leading number found count : ℕ}
    → HasDigits 39 bound → Reading decimal_table 32 s len leading number
    → 0 < len → len < 32 → found ≡ number → count ≡ len → Ok (found, count) ≡ prefix_magnitude decimal_table wide128 bound 39 false s
ended_in_32 bound {s} {len} digits reading some few found_is count_is =
    rw (found_is, count_is) (sym (rw (zero-add len, ne_eqb len 0 (omega arith))
    at (short decimal_below_ten wide128 bound 39 (lit< tt) digits (start false s) reading few (omega arith)).1))

pub first_decides : (s : List ℕ) → (slice_index_or s 0 0 ≡ 48 → ⊥) → zeros decimal_table s ≡ 0
first_decides [] other = refl
first_decides (x ∷ xs) other = grind (arith, nat_tests)

-- After skipped zeros, a window of 32 bytes that is not full decides, or has 24 digits after its zeros.
pub decided_64 : (bound limit : ℕ) {s : List ℕ} {at : ℕ} {w : Window32} → limit ≤ 20 → ReadsAfterZeros s at w
    → answer_by_digits wide64 bound limit (at + w.zeroes) (w.len - w.zeroes) w.number s
    ≡ prefix_magnitude decimal_table wide64 bound limit true s
decided_64 bound limit {w = w} few front =
    let most = within front.reading in
    let enough : (w.len < 32) ⊎ (24 ≤ w.len - w.zeroes) =
    elim (cases_lt w.len 32) [ inl h ↦ inl h | inr h ↦ inr (omega (arith, h, front.ends h)) ] in
    let leading : w.len - (w.len - w.zeroes) ≡ w.zeroes = omega (arith, most.0) in
    sym (rw leading at (decided wide64 bound limit (omega arith) front.skipped front.reading enough))

-- For 128 bits, a full window and the 8 bytes after it decide.
pub decided_full : (bound : ℕ) {skip : Bool} {s : List ℕ} {at len leading number : ℕ} → IsSkipped decimal_table skip s at
    → Reading decimal_table 32 (drop at s) len leading number → 32 ≤ len
    → (skip ≡ true → leading ≡ 0) → let back = window_of decimal_table 8 (drop (at + 32) s) in
    (number < 10 ^ 32) × (at + 32 ≤ length s)
    × (answer_by_digits wide128 bound 39 at (32 + back.len) (number * 10 ^ back.len + back.number) s
    ≡ prefix_magnitude decimal_table wide128 bound 39 skip s)
decided_full bound {skip} {s} {at} {len} {leading} skipped seen full none =
    let all : len ≡ 32 = omega (arith, within seen) in
    let front = rw all at seen in
    let back : Window = window_of decimal_table 8 (drop (at + 32) s) in
    let following : Reading decimal_table 8 (drop 32 (drop at s)) back.len
    (zeros decimal_table (take 8 (drop 32 (drop at s)))) back.number =
    reading_of_window (ap (window_of decimal_table 8) (sym (drop-drop 32 at s))) in (
      below front decimal_below_ten,
      omega (arith, within front, length-drop at s),
      sym (all_decide wide128 bound 39 (lit< tt) skipped (join_readings front following) (λ on. rw (none on) refl)),
    )
