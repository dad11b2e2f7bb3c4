-- Lanes of 0 after a slice change nothing in the windows and readings that they show.
use Rattle.std.proofs.Common.{◌≡◌, ℕ, ◌≤◌, List, length, take, min, refl, ap, ◌∙◌, arith}
use Rattle.std.proofs.Math.Nat.{min_comm}
use Rattle.std.proofs.lemmas.List.{take_all, take_min, length-take, take-append-le, take-take}
use Rattle.std.proofs.lemmas.List.Sums.{prefix_len-le-length}
use Rattle.atoi_core.specs.Digit.{decimal_table, is_digit, is_zero}
use Rattle.atoi_core.specs.Lanes.{lane_window, padded_start}
use Rattle.atoi_core.specs.Reading.{Reading, window_of}
use Rattle.atoi_core.specs.Run.{run_len, run, zeros, value}
use Rattle.atoi_core.proofs.lemmas.LoadedWords.{prefix_len-padded}

module _ (n : ℕ) (s : List ℕ) where
  pub digits_shown : run_len decimal_table (padded_start n s) ≡ run_len decimal_table (take n s)
  digits_shown = prefix_len-padded (is_digit decimal_table) refl n n s

  zeros_shown : zeros decimal_table (padded_start n s) ≡ zeros decimal_table (take n s)
  zeros_shown = prefix_len-padded (is_zero decimal_table) refl n n s

  run_shown : run decimal_table (padded_start n s) ≡ run decimal_table (take n s)
  run_shown =
      let len = run_len decimal_table (take n s) in
      let most : len ≤ min n (length s) = omega (arith, prefix_len-le-length (is_digit decimal_table) (take n s), length-take n s) in
      ap (λ k. take k (padded_start n s)) digits_shown ∙ search (arith, take-take, take-append-le, most)

  lanes_show : (size : ℕ) → lane_window size (padded_start n s) ≡ lane_window size (take n s)
  lanes_show size = cc (digits_shown, zeros_shown, run_shown)

  pub reading_shown : Reading decimal_table n s (run_len decimal_table (padded_start n s))
      (zeros decimal_table (padded_start n s)) (value decimal_table (run decimal_table (padded_start n s)))
  reading_shown = record { digits_are = digits_shown; leading_are = zeros_shown; number_is = ap (value decimal_table) run_shown }

pub window_of_lanes : (s : List ℕ) → lane_window 16 (padded_start 16 s) ≡ window_of decimal_table 16 s
window_of_lanes s = lanes_show 16 s 16

pub window_of_half : (n : ℕ) (s : List ℕ) → n ≡ min (length s) 8 → lane_window 8 (padded_start 16 (take n s)) ≡ window_of decimal_table 8 s
window_of_half n s is =
    ap (λ l. lane_window 8 (padded_start 16 l)) (ap (λ k. take k s) (is ∙ min_comm (length s) 8) ∙ take_min 8 s)
    ∙ lanes_show 16 (take 8 s) 8 ∙ ap (lane_window 8) (take_all 16 (take 8 s) (omega (arith, length-take 8 s)))
