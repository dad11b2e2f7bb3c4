-- When windows of 32 bytes decide the answers.
use Rattle.std.proofs.Common.{◌≡◌, ℕ, ◌+◌, ◌-◌, ◌*◌, ◌^◌, ◌<◌, ◌≤◌, ◌⊎◌, Bool, true, false, cond, List, length, take, drop, inl, inr, refl, sym, ap, ◌∙◌, arith, lit<}
use Rattle.std.proofs.lemmas.Bool.{cases_lt}
use Rattle.std.proofs.lemmas.List.{drop-drop, length-drop, take_rest}
use Rattle.atoi_core.specs.Digit.{decimal_table}
use Rattle.atoi_core.specs.Magnitude.{wide64, wide128, prefix_magnitude}
use Rattle.atoi_core.specs.Reading.{Reading, significant_digits, answer_by_digits, window_of}
use Rattle.atoi_core.specs.Run.{zeros}
use Rattle.atoi_core.specs.declared.engine.window.Window.{Window}
use Rattle.atoi_core.proofs.lemmas.Readings.{join_readings, within, below, decided, all_decide}
use Rattle.atoi_core.proofs.lemmas.Runs.{decimal_below_ten}
use Rattle.atoi_lanes.specs.Lanes.{ReadsAfterZeros}
use Rattle.atoi_lanes.specs.declared.window_32.Window32.{Window32}

-- Which digits of a window are significant: at least 24 if it is full.
significant : (skip : Bool) (len leading : ℕ) → leading ≤ len → (skip ≡ true → 32 ≤ len → leading ≡ 0)
    → (significant_digits skip len leading ≡ len - cond skip leading 0) × (len - significant_digits skip len leading ≡ cond skip leading 0)
    × ((len < 32) ⊎ (24 ≤ significant_digits skip len leading))
significant true len leading most ends =
    (refl, omega arith, elim (cases_lt len 32) [ inl h ↦ inl h | inr h ↦ inr (omega (arith, h, ends refl h)) ])
significant false len leading most ends =
    (omega arith, omega arith, elim (cases_lt len 32) [ inl h ↦ inl h | inr h ↦ inr (omega (arith, h)) ])

-- For 64 bits, the last window decides the answer.
pub decided_64 : (bound limit : ℕ) (skip : Bool) (s : List ℕ) (at : ℕ) (w : Window32) (leading : ℕ)
    → limit ≤ 20 → ReadsAfterZeros skip s at w → leading ≡ cond skip w.zeroes 0
    → (leading ≤ w.len) × (at + leading + (w.len - leading) ≤ length s)
    × (answer_by_digits wide64 bound limit (at + leading) (w.len - leading) w.number s
    ≡ prefix_magnitude decimal_table wide64 bound limit skip s)
decided_64 bound limit skip s at w leading few after_skip is =
    let digits = significant skip w.len w.zeroes (within after_skip.reading).0 after_skip.ends in (
      omega (arith, is, digits.1),
      omega (arith, is, digits.1, after_skip.within),
      sym (rw (digits.1, digits.0, ← is) at (decided wide64 bound limit (omega arith) after_skip.skipped after_skip.reading digits.2)),
    )

-- For 128 bits, a full window and 8 bytes decide.
pub decided_full : (bound : ℕ) (skip : Bool) (s : List ℕ) (at : ℕ) (w : Window32) (back : Window)
    → ReadsAfterZeros skip s at w → 32 ≤ w.len
    → back ≡ window_of decimal_table 8 (take (length s - (at + 32)) (drop (at + 32) s))
    → (back.len ≤ 8) × (w.number * 10 ^ back.len + back.number < 10 ^ (32 + back.len)) × (at + (32 + back.len) ≤ length s)
    × (answer_by_digits wide128 bound 39 at (32 + back.len) (w.number * 10 ^ back.len + back.number) s
    ≡ prefix_magnitude decimal_table wide128 bound 39 skip s)
decided_full bound skip s at w back after_skip full reported =
    let e : back ≡ window_of decimal_table 8 (drop 32 (drop at s)) =
    reported ∙ ap (window_of decimal_table 8) (take_rest s (at + 32) ∙ sym (drop-drop 32 at s)) in
    let most = within after_skip.reading in
    let len : w.len ≡ 32 = omega (arith, most.1) in
    let front = rw len at after_skip.reading in
    let following : Reading decimal_table 8 (drop 32 (drop at s))
    back.len (zeros decimal_table (take 8 (drop 32 (drop at s)))) back.number =
    record { digits_are = ap (λ v. v.len) e; leading_are = refl; number_is = ap (λ v. v.number) e } in
    let both = join_readings front following in (
      omega (arith, (within following).1),
      below both decimal_below_ten,
      omega (arith, after_skip.within, within both, length-drop at s),
      sym (all_decide wide128 bound 39 (lit< tt) after_skip.skipped both
          (λ on. let first : w.zeroes ≡ 0 = after_skip.ends on full in rw first refl)),
    )
