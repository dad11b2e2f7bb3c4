-- The loop that skips zeros by windows of 32 bytes: how far it gets, and how many loads it makes.
use Rattle.std.proofs.Common.{◌≡◌, ℕ, ◌+◌, ◌-◌, ◌*◌, ◌/◌, ◌<◌, ◌≤◌, min, Bool, true, List, length, take, drop, refl, sym, ◌∙◌, arith}
use Rattle.std.proofs.lemmas.Bool.{false≢true}
use Rattle.std.proofs.lemmas.List.{length-drop, take_rest}
use Rattle.std.proofs.lemmas.List.Sums.{prefix_len-le-length}
use Rattle.atoi_core.specs.Digit.{decimal_table, is_zero}
use Rattle.atoi_core.specs.Reading.{Reading, IsSkipped}
use Rattle.atoi_core.specs.Run.{run_len, zeros}
use Rattle.atoi_core.proofs.lemmas.Readings.{zeros_left, within}
use Rattle.atoi_core.proofs.lemmas.Runs.{prefix_len-drop, prefix_len-take, zeros-le}
use Rattle.atoi_lanes.specs.Lanes.{ReadsAfterZeros}
use Rattle.atoi_lanes.specs.declared.window_32.Window32.{Window32}

-- Only zeros that are skipped precede `at`: 32 for each window so far, or all. These windows are full of digits.
pub record Skipping (skip : Bool) (s : List ℕ) (at : ℕ) (w : Window32) : Type 0 where
  pub skipped : IsSkipped decimal_table skip s at
  pub reading : Reading decimal_table 32 (drop at s) w.len w.zeroes w.number
  pub place : at ≡ min (zeros decimal_table s) ((at + 31) / 32 * 32)
  pub full : (at + 31) / 32 * 32 ≤ run_len decimal_table s

pub Skipping-none : (skip : Bool) (s : List ℕ) (w : Window32) → Reading decimal_table 32 s w.len w.zeroes w.number → Skipping skip s 0 w
Skipping-none skip s w reading = record {
  skipped = record { zeros_only = omega arith; asked = λ _. refl };
  reading = reading;
  place = omega arith;
  full = omega arith;
}

module _ {skip : Bool} {s : List ℕ} {at : ℕ} {w : Window32} (skipping : Skipping skip s at w) where
  left : w.zeroes ≡ min 32 (zeros decimal_table s - at)
  left = skipping.reading.leading_are ∙ zeros_left decimal_table 32 s at skipping.skipped.zeros_only

  digits_left : w.len ≡ min 32 (run_len decimal_table s - at)
  digits_left = search (arith, prefix_len-take, prefix_len-drop, zeros-le)

  pub Skipping-inside : at + w.zeroes ≤ length s
  Skipping-inside = omega (arith, left, skipping.skipped.zeros_only, prefix_len-le-length (is_zero decimal_table) s)

  -- The next window is read after the zeros of a full one.
  pub Skipping-next : (next : Window32) → skip ≡ true → w.len ≡ 32 → 0 < w.zeroes
      → Reading decimal_table 32 (take (length s - (at + w.zeroes)) (drop (at + w.zeroes) s)) next.len next.zeroes next.number
      → ((at + w.zeroes + 31) / 32 ≡ (at + 31) / 32 + 1) × Skipping skip s (at + w.zeroes) next
  Skipping-next next on all some reading = (
    omega (arith, left, skipping.place),
    record {
      skipped = record { zeros_only = omega (arith, left); asked = λ off. absurd (false≢true (sym off ∙ on)) };
      reading = rw take_rest at reading;
      place = omega (arith, left, some, skipping.place);
      full = omega (arith, left, some, all, digits_left, skipping.place);
    },
  )

  -- The last window has no zeros to skip, or is not full.
  module _ (ends : skip ≡ true → w.len ≡ 32 → w.zeroes ≡ 0) where
    pub Skipping-reached : ReadsAfterZeros skip s at w
    Skipping-reached = record {
      skipped = skipping.skipped;
      reading = skipping.reading;
      within = omega
          (arith, skipping.skipped.zeros_only, prefix_len-le-length (is_zero decimal_table) s, within skipping.reading, length-drop at s);
      ends = λ on full. ends on (omega (arith, digits_left, full));
    }

    pub Skipping-offset : skip ≡ true → at ≡ min (zeros decimal_table s) (run_len decimal_table s / 32 * 32)
    Skipping-offset on = grind (arith, left, digits_left, ends on, skipping.place, skipping.full, zeros-le decimal_table s)
