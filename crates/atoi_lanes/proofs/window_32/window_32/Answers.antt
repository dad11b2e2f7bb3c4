-- The lanes hold the first 32 bytes, filled up with bytes that are no digits, so they count what the bytes do. Of the
-- `len` digits, `len - more` are in the first half and `more` in the second, and both numbers join to the window's.
use Rattle.std.proofs.Common.{◌≡◌, ℕ, ◌+◌, ◌-◌, ◌*◌, ◌^◌, ◌≤◌, Fits, w8, List, length, take, drop, sym, ap, ap₂, subst, ◌∙◌, arith}
use Rattle.std.proofs.lemmas.List.Sums.{prefix_len-le-length}
use Rattle.atoi_core.specs.Digit.{decimal_table, is_digit}
use Rattle.atoi_core.specs.Run.{run_len, zeros, value}
use Rattle.atoi_lanes.proofs.lemmas.LaneWindows.{length_padded, padded_fits, first_half, second_half, halves_run, halves_value}
use Rattle.atoi_core.proofs.lemmas.LaneWindows.{reading_shown}
use Rattle.atoi_lanes.proofs.lemmas.Masks.{digits_counted, zeros_counted}
use Rattle.atoi_lanes.proofs.window_32.window_32.Goals as goal
use Rattle.atoi_lanes.proofs.window_32.window_32.Goals.{After-saturating_sub-more}
use lib.Lanes.{Each1}

-- What is known of the lanes, of the count, and of the part of it in the second half.
record Counted (lanes : List ℕ) (len more : ℕ) : Type 0 where
  long : length lanes ≡ 32
  fits : Each1 (Fits w8) lanes
  len_is : len ≡ run_len decimal_table lanes
  len_most : len ≤ 32
  more_is : more ≡ len - 16

counted : (c : After-saturating_sub-more) → Counted c.first_bytes-lanes.result c.trailing_ones-len.result c.saturating_sub-more.result
counted c =
    let v : List ℕ = c.first_bytes-lanes.result in
    let padded = c.first_bytes-lanes.ensures in
    let long : length v ≡ 32 = ap length padded ∙ length_padded 32 c.args.s.now in
    let fits : Each1 (Fits w8) v = subst (Each1 (Fits w8)) (sym padded) (padded_fits 32 c.args.s.now c.type_inv.s) in
    let len : c.trailing_ones-len.result ≡ run_len decimal_table v =
    c.trailing_ones-len.ensures ∙ digits_counted 32 v (omega arith) long fits in
    record {
      long = long;
      fits = fits;
      len_is = len;
      len_most = omega (arith, len, long, prefix_len-le-length (is_digit decimal_table) v);
      more_is = c.saturating_sub-more.ensures;
    }

pub sum_lanes-high-requires-clause-digits : goal.sum_lanes-high-requires-clause-digits
sum_lanes-high-requires-clause-digits c =
    let known = counted c in
    subst (λ half. c.trailing_ones-len.result - c.saturating_sub-more.result ≤ run_len decimal_table half)
    (sym (first_half c.first_bytes-lanes.result known.long))
    (omega (arith, known.more_is, (halves_run c.trailing_ones-len.result c.first_bytes-lanes.result (omega (arith, known.len_is))).0))

pub sum_lanes-low-requires-clause-within : goal.sum_lanes-low-requires-clause-within
sum_lanes-low-requires-clause-within c =
    let known = counted (goal.at.sum_lanes-low-requires-clause-within c).After-saturating_sub-more in
    omega (arith, known.more_is, known.len_most)

pub sum_lanes-low-requires-clause-digits : goal.sum_lanes-low-requires-clause-digits
sum_lanes-low-requires-clause-digits c =
    let known = counted (goal.at.sum_lanes-low-requires-clause-digits c).After-saturating_sub-more in
    subst (λ half. c.saturating_sub-more.result ≤ run_len decimal_table half) (sym (second_half c.first_bytes-lanes.result known.long))
    (omega (arith, known.more_is, (halves_run c.trailing_ones-len.result c.first_bytes-lanes.result (omega (arith, known.len_is))).1))

pub append_digits-requires : goal.append_digits-requires
append_digits-requires c =
    let known = counted (goal.at.append_digits-requires c).After-saturating_sub-more in
    omega (arith, known.more_is, known.len_most)

pub returns-clause-reading : goal.returns-clause-reading
returns-clause-reading c =
    let known = counted (goal.at.returns-clause-reading c).After-saturating_sub-more in
    let v : List ℕ = c.first_bytes-lanes.result in
    let len : ℕ = c.trailing_ones-len.result in
    let more : ℕ = c.saturating_sub-more.result in
    let padded = c.first_bytes-lanes.ensures in
    let shown = reading_shown 32 c.args.s.now in
    let high = c.sum_lanes-high.ensures ∙ ap (λ half. value decimal_table (take (len - more) half)) (first_half v known.long) in
    let low = c.sum_lanes-low.ensures ∙ ap (λ half. value decimal_table (take more half)) (second_half v known.long) in
    record {
      digits_are = known.len_is ∙ ap (run_len decimal_table) padded ∙ shown.digits_are;
      leading_are = c.trailing_ones.ensures ∙ zeros_counted 32 v (omega arith) known.long known.fits
          ∙ ap (zeros decimal_table) padded ∙ shown.leading_are;
      number_is = c.append_digits.ensures ∙ ap₂ (λ a b. a * 10 ^ more + b) high low
          ∙ ap (λ m. value decimal_table (take (len - m) (take 16 v)) * 10 ^ m + value decimal_table (take m (drop 16 v))) known.more_is
          ∙ halves_value len v (omega (arith, known.len_is))
          ∙ ap₂ (λ n l. value decimal_table (take n l)) (known.len_is ∙ ap (run_len decimal_table) padded) padded ∙ shown.number_is;
    }
