-- What follows from two full windows after skipped zeros.
use Rattle.std.proofs.Common.{◌≡◌, ℕ, ◌+◌, ◌*◌, ◌^◌, ◌<◌, ◌≤◌, Bool, List, length, drop, sym, ap, arith, drop-drop}
use Rattle.std.proofs.lemmas.List.Sums.{prefix_len-le-length}
use Rattle.atoi_core.specs.Digit.{decimal_table, is_digit}
use Rattle.atoi_core.specs.Magnitude.{wide128, prefix_magnitude}
use Rattle.atoi_core.specs.Reading.{answer_by_digits, window_of}
use Rattle.atoi_core.specs.declared.engine.window.Window.{Window}
use Rattle.atoi_core.proofs.lemmas.LoopAnswers.{answers_128}
use Rattle.atoi_core.proofs.lemmas.Readings.{below}
use Rattle.atoi_core.proofs.lemmas.Runs.{decimal_below_ten}
use Rattle.atoi_core.proofs.lemmas.Windows.{Shows, Shows-join, Skipped, shows, two_full}

-- With the 8 bytes after them, they decide for 128 bits.
pub after_32 : (bound : ℕ) {skip : Bool} {s : List ℕ} {at before now high : ℕ} {first middle : Window}
    → Skipped decimal_table skip s at before now first
    → 16 ≤ first.len → Shows decimal_table 16 (drop 16 (drop at s)) middle → 16 ≤ middle.len → (digits : ℕ) → digits ≡ middle.len
    → high ≡ first.number * 10 ^ digits + middle.number
    → let back = window_of decimal_table 8 (drop (at + 32) s) in
    (high < 10 ^ 32) × (at + 32 ≤ length s)
    × (answer_by_digits wide128 bound 39 at (32 + back.len) (high * 10 ^ back.len + back.number) s
    ≡ prefix_magnitude decimal_table wide128 bound 39 skip s)
after_32 bound {s = s} {at} {middle = middle} after_skip full next more digits digits_are high_is =
    let len : middle.len ≡ 16 = omega (arith, next.len_is) in
    let joined = rw digits_are at high_is in
    let high_below = rw len at (below (Shows-join after_skip.window full next) decimal_below_ten) in
    let run = two_full (drop at s) after_skip.window full next more in
    let back = shows decimal_below_ten 8 (drop 32 (drop at s)) (ap (window_of decimal_table 8) (sym (drop-drop 32 at s))) in (
      omega (arith, high_below, rw len at joined),
      omega (arith, run, after_skip.run_is, prefix_len-le-length (is_digit decimal_table) s),
      (answers_128 decimal_below_ten bound after_skip full next more back joined).2,
    )
