-- The lanes of a slice, and the windows and readings that they show.
use Rattle.std.proofs.Common.{◌≡◌, ℕ, ◌+◌, ◌<◌, List, ◌++◌, get_or, length, take, drop, replicate, ◌-◌, sym, ap, ◌∙◌, arith, ◌≤◌}
use Rattle.std.proofs.lemmas.List.{take_at, take_rest, length-drop, drop-drop, take-append-le, take-take}
use Rattle.atoi_core.specs.Digit.{decimal_table, is_digit}
use Rattle.atoi_core.specs.Reading.{Reading}
use Rattle.atoi_core.specs.Run.{run_len, run, zeros, value}
use Rattle.atoi_core.specs.Words.{low_bytes, word_of}
use Rattle.atoi_core.proofs.lemmas.LaneWindows.{digits_shown, reading_shown}
use Rattle.atoi_core.proofs.lemmas.LoadedWords.{digits-of_bytes, loaded_run}
use Rattle.atoi_core.proofs.lemmas.Runs.{prefix_len-drop, prefix_len-take}
use Rattle.atoi_core.specs.Lanes.{padded_start}
use lib.Lanes.{Each1, digits_l}
use Rattle.std.proofs.lemmas.List.Sums.{prefix_len-le-length}

-- The lanes of a word: its bytes, padded with zeros.
pub lanes-of_bytes : (m : ℕ) (xs : List ℕ) → Each1 (λ x. x < 256) xs
    → 16 ≤ length xs + m → digits_l 256 16 (word_of xs) ≡ take 16 (xs ++ replicate m 0)
unfolding word_of
lanes-of_bytes m xs h room = digits-of_bytes 16 m xs h room

pub first_lanes : (n : ℕ) (s : List ℕ) → n ≤ 16 → n ≤ length s → take n (padded_start 16 s) ≡ take n s
first_lanes n s few enough = search (arith, take-take, take-append-le)

-- The word of eight bytes has a run that ends in them.
module _ (s : List ℕ) (fits : (i : ℕ) → get_or s i 0 < 256) (word : ℕ) (loaded : word ≡ word_of (take 8 s)) where
  pub few_counted : run_len decimal_table (padded_start 16 s) ≤ 8
      → run_len decimal_table (padded_start 16 s) ≡ run_len decimal_table (low_bytes 8 word)
  few_counted few = omega (arith, digits_shown, prefix_len-take, loaded_run 8 s fits word loaded)

-- The last 16 of 16 to 31 bytes, the first 16 of which are digits: what they count, and the bytes after the
-- first 16.
pub last_shown : (s lanes : List ℕ) → 16 ≤ run_len decimal_table s → length s < 32
    → lanes ≡ padded_start 16 (take (length s - (length s - 16)) (drop (length s - 16) s))
    → (run_len decimal_table s ≡ length s - 16 + run_len decimal_table lanes) × (drop (16 - (length s - 16)) lanes ≡ drop 16 s)
last_shown s lanes full few are =
    let last = drop (length s - 16) s in
    let enough : 16 ≤ length s = omega (arith, full, prefix_len-le-length (is_digit decimal_table) s) in
    let long : length last ≡ 16 = length-drop (length s - 16) s ∙ omega (arith, enough) in
    let same : lanes ≡ last = are ∙ ap (padded_start 16) (take_rest s (length s - 16)) ∙ take_at last (replicate 16 0) 16 long in
    let place : length s - 16 + (16 - (length s - 16)) ≡ 16 = omega (arith, enough) in (
      prefix_len-drop (is_digit decimal_table) (length s - 16) s (omega arith)
          ∙ ap (λ l. length s - 16 + run_len decimal_table l) (sym same),
      ap (drop (16 - (length s - 16))) same ∙ drop-drop (16 - (length s - 16)) (length s - 16) s ∙ ap (λ n. drop n s) place,
    )

-- The lanes of 16 bytes give a reading of these.
pub reading_of_lanes : (s lanes : List ℕ) (len number : ℕ) → lanes ≡ padded_start 16 s → len ≡ run_len decimal_table lanes
    → number ≡ value decimal_table (take len lanes) → Reading decimal_table 16 s len (zeros decimal_table lanes) number
reading_of_lanes s lanes len number loaded digits writes =
    let shown = reading_shown 16 s in
    record {
      digits_are = digits ∙ ap (run_len decimal_table) loaded ∙ shown.digits_are;
      leading_are = ap (zeros decimal_table) loaded ∙ shown.leading_are;
      number_is = writes ∙ ap (λ n. value decimal_table (take n lanes)) digits
          ∙ ap (λ l. value decimal_table (run decimal_table l)) loaded ∙ shown.number_is;
    }

-- Sixteen digits in the lanes are the first sixteen bytes.
pub full_lanes : (s lanes : List ℕ) {number : ℕ} → lanes ≡ padded_start 16 s
    → run_len decimal_table lanes ≡ 16 → number ≡ value decimal_table (take 16 lanes)
    → (16 ≤ run_len decimal_table s) × (number ≡ value decimal_table (take 16 s))
full_lanes s lanes loaded all writes =
    let full : 16 ≤ run_len decimal_table s =
    omega (arith, sym (ap (run_len decimal_table) loaded) ∙ all, digits_shown 16 s, prefix_len-take (is_digit decimal_table) 16 s) in
    let enough : 16 ≤ length s = omega (arith, full, prefix_len-le-length (is_digit decimal_table) s) in
    (full, writes ∙ ap (λ l. value decimal_table (take 16 l)) loaded ∙ ap (value decimal_table) (first_lanes 16 s (omega arith) enough))
