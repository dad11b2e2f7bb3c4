-- Only the last window can begin with fewer than 32 zeros.
use Rattle.std.proofs.Common.{◌≡◌, ℕ, ◌-◌, ◌≤◌, List, drop, min, arith, inl, inr}
use Rattle.std.proofs.lemmas.List.{length-drop, take_rest}
use Rattle.std.proofs.lemmas.List.Sums.{prefix_len-le-length}
use Rattle.atoi_core.proofs.lemmas.Readings.{within}
use Rattle.atoi_core.proofs.lemmas.Runs.{prefix_len-drop, prefix_len-take, zeros-le}
use Rattle.atoi_core.specs.Digit.{decimal_table, is_zero}
use Rattle.atoi_core.specs.Reading.{Reading}
use Rattle.atoi_core.specs.Run.{run_len, zeros}
use Rattle.atoi_fast.proofs.vectors.wide.window_after_zeros.Goals as goal

-- The digits and the zeros of a window after zeros.
left : (s : List ℕ) (at : ℕ) {digits leading number : ℕ} → at ≤ zeros decimal_table s
    → Reading decimal_table 32 (drop at s) digits leading number
    → (digits ≡ min 32 (run_len decimal_table s - at)) × (leading ≡ min 32 (zeros decimal_table s - at))
left s at skipped reading = search (arith, prefix_len-take, prefix_len-drop, zeros-le)

pub loop-window-preserved : goal.loop-window-preserved
loop-window-preserved c =
    let s = c.args.s.now in
    let so_far = c.loop-window.invariant in
    let w = c.window_32-window.ensures in
    let more = left s c.loop-window.at (omega (arith, so_far.place)) (rw take_rest at w.reading) in
    record {
      within = omega (arith, more.1, so_far.place, prefix_len-le-length (is_zero decimal_table) s);
      loads = omega (arith, more.1, so_far.place, so_far.loads, w.one_step);
      place = omega (arith, more.1, so_far.place);
      full = omega (arith, more, so_far.place, so_far.full);
    }

pub returns-then-window-eq0-clause-reached : goal.returns-then-window-eq0-clause-reached
returns-then-window-eq0-clause-reached c =
    let s = c.args.s.now in
    let w = c.window_32-window.result in
    let reading = rw take_rest at c.window_32-window.ensures.reading in
    let most = within reading in
    let skipped : c.loop-window.at ≤ zeros decimal_table s = omega (arith, c.loop-window.invariant.place) in
    record {
      skipped = record { zeros_only = skipped; asked = λ off. absurd (cc) };
      reading = reading;
      within = omega (arith, skipped, prefix_len-le-length (is_zero decimal_table) s, most, length-drop c.loop-window.at s);
      ends = λ full. elim c.then-window-eq0.either [ inl none ↦ none | inr short ↦ absurd (omega arith) ];
    }

pub returns-then-window-eq0-clause-offset : goal.returns-then-window-eq0-clause-offset
returns-then-window-eq0-clause-offset c =
    let s = c.args.s.now in
    let so_far = c.loop-window.invariant in
    let more = left s c.loop-window.at (omega (arith, so_far.place)) (rw take_rest at c.window_32-window.ensures.reading) in
    grind (arith, more, so_far.place, so_far.full, zeros-le decimal_table s, c.then-window-eq0.either)
