-- Slices of 8 to 15 bytes, from their first eight and their last eight bytes.
use Rattle.std.proofs.Common.{◌≡◌, ℕ, ◌-◌, ◌*◌, ◌^◌, ◌<◌, ◌≤◌, List, [], ◌∷◌, ◌++◌, map, length, take, drop, replicate, get_or, refl, sym, ap, subst, ◌∙◌, arith, rules, w8}
use Rattle.std.specs.List.{range_with_len}
use Rattle.std.proofs.lemmas.Bool.Decides.{nat_tests}
use Rattle.std.proofs.lemmas.List.{length-append, length-drop, length-map, length-take-le, take_all, take_at}
use Rattle.std.proofs.lemmas.List.Folds.{prefix_len-append}
use Rattle.std.proofs.lemmas.List.Sums.{prefix_len-le-length}
use Rattle.std.proofs.lemmas.Simd.{Each1-chunk, SwzOk, pick_l_whole, swz_l}
use Rattle.atoi_core.specs.Digit.{decimal_table}
use Rattle.atoi_core.specs.Run.{run_len, value}
use Rattle.atoi_core.specs.Words.{word_of}
use Rattle.atoi_core.proofs.lemmas.LoadedWords.{bytes, word_appended}
use Rattle.atoi_core.proofs.lemmas.Runs.{prefix_len-drop, prefix_len-take}
use Rattle.atoi_fast.proofs.lemmas.DigitLanes.{above_zero, each-append, end_values, less}
use Rattle.atoi_fast.proofs.lemmas.LaneWindows.{lanes-of_bytes}
use Rattle.atoi_fast.proofs.lemmas.Shuffles.{each_from}
use Rattle.atoi_core.specs.Lanes.{padded_start}
use Rattle.atoi_fast.specs.Vectors.{itself}
use Rattle.atoi_fast.specs.declared.vectors.bytes.TheConstants.{TO_END, TO_START}
use lib.Lanes.{Each1, digits_l, number_l, zip2}

-- Lanes, the first or the last n of which are moved.
abbrev pub to_start : ℕ → List ℕ → List ℕ
to_start n v = take 8 v ++ (drop (24 - n) v ++ replicate (16 - n) 0)

abbrev to_end : ℕ → List ℕ → List ℕ
to_end n v = replicate (16 - n) 0 ++ (take (n - 8) v ++ drop 8 v)

-- A row of each table selects them.
abbrev Selected : List ℕ → ℕ → Type 0
Selected v n =
    (swz_l w8 16 v 0 (take 16 (get_or TO_START (n - 8) [])) ≡ to_start n v)
    × (swz_l w8 16 v 0 (take 16 (get_or TO_END (n - 8) [])) ≡ to_end n v)

selected : (v : List ℕ) (n : ℕ) → length v ≡ 16 → 8 ≤ n → n < 16 → Selected v n
selected v n long enough few =
    subst (λ w. Selected w n) (pick_l_whole 0 v 16 long)
    (each_from (Selected (map (λ i. get_or v i 0) (range_with_len 0 16))) 8 8 (search rules) n enough few)

pub selected_start : (v : List ℕ) (n : ℕ) → length v ≡ 16 → 8 ≤ n → n < 16
    → swz_l w8 16 v 0 (take 16 (get_or TO_START (n - 8) [])) ≡ to_start n v
selected_start v n long enough few = (selected v n long enough few).0

pub selected_end : (v : List ℕ) (n : ℕ) → length v ≡ 16 → 8 ≤ n → n < 16 → swz_l w8 16 v 0 (take 16 (get_or TO_END (n - 8) [])) ≡ to_end n v
selected_end v n long enough few = (selected v n long enough few).1

-- Each row selects lanes, or 0.
pub start_ok : (len : ℕ) → 8 ≤ len → len < 16 → SwzOk w8 16 16 0 (take 16 (get_or TO_START (len - 8) []))
start_ok len enough few = each_from (λ n. SwzOk w8 16 16 0 (take 16 (get_or TO_START (n - 8) []))) 8 8 (search rules) len enough few

pub end_ok : (len : ℕ) → 8 ≤ len → len < 16 → SwzOk w8 16 16 0 (take 16 (get_or TO_END (len - 8) []))
end_ok len enough few = each_from (λ n. SwzOk w8 16 16 0 (take 16 (get_or TO_END (n - 8) []))) 8 8 (search rules) len enough few

-- The first eight and the last eight bytes.
abbrev ends : List ℕ → List ℕ
ends s = take 8 s ++ drop (length s - 8) s

-- Moved to the first lane, they are the slice; so are their values at the last lane.
abbrev Moved : List ℕ → Type 0
Moved s =
    let n = length s in
    (to_start n (ends s) ≡ padded_start 16 s) × (to_end n (zip2 less (ends s) (replicate 16 48)) ≡ replicate (16 - n) 0 ++ map above_zero s)

module _ (s : List ℕ) (enough : 8 ≤ length s) where
  front : length (take 8 s) ≡ 8
  front = length-take-le 8 s enough

  back : length (drop (length s - 8) s) ≡ 8
  back = length-drop (length s - 8) s ∙ omega arith

  -- They are the lanes of their words.
  pub lanes_of_ends : ((i : ℕ) → get_or s i 0 < 256) → (first last : ℕ)
      → first ≡ word_of (take 8 s) → last ≡ word_of (drop (length s - 8) s)
      → digits_l 256 16 (number_l (2 ^ 64) (first ∷ last ∷ [])) ≡ ends s
  lanes_of_ends fits first last is last_is =
      let all = take_all 8 (drop (length s - 8) s) (omega (arith, back)) in
      let sixteen : length (ends s) ≡ 16 = length-append (take 8 s) (drop (length s - 8) s) ∙ omega (arith, front, back) in
      let appended = word_appended (take 8 s) (drop (length s - 8) s) in
      let place = ap (λ n. word_of (drop (length s - 8) s) * 2 ^ (n * 8)) front in
      let both : number_l (2 ^ 64) (first ∷ last ∷ []) ≡ word_of (ends s) = omega (arith, appended, place, is, last_is) in
      let each = bytes s fits in
      ap (digits_l 256 16) both
      ∙ lanes-of_bytes 16 (ends s)
      (each-append _ _ _ (Each1-chunk _ 0 8 s each)
      (subst (Each1 (λ x. x < 256)) all (Each1-chunk _ (length s - 8) 8 s each))) (omega (arith, sixteen))
      ∙ take_at (ends s) (replicate 16 0) 16 sixteen

  -- All of them are digits if and only if all bytes are.
  pub ends_run : length s < 16 → (run_len decimal_table (ends s) ≡ 16 → run_len decimal_table s ≡ length s)
      × (run_len decimal_table s ≡ length s → run_len decimal_table (ends s) ≡ 16)
  ends_run few = search (arith, nat_tests, prefix_len-take, prefix_len-append, prefix_len-le-length, prefix_len-drop, front, back)

  pub moved : length s < 16 → Moved s
  moved few =
      subst Moved (pick_l_whole 0 s (length s) refl)
      (each_from (λ n. Moved (map (λ i. get_or s i 0) (range_with_len 0 n))) 8 8 (search rules) (length s) enough few)

  -- Less 48 and moved so, digits spell their value.
  pub values_of_8_to_15 : length s < 16 → run_len decimal_table s ≡ length s → (v lanes : List ℕ) → v ≡ ends s
      → lanes ≡ to_end (length s) (zip2 less v (replicate 16 48)) → (value itself lanes ≡ value decimal_table s) × Each1 (λ x. x < 16) lanes
  values_of_8_to_15 few all v lanes is lanes_are =
      let n = length s in
      let whole = take_all n (map above_zero s) (omega (arith, length-map s above_zero)) in
      let known = end_values (16 - n) n s lanes (omega arith)
      (lanes_are ∙ ap (λ w. to_end n (zip2 less w (replicate 16 48))) is
      ∙ (moved few).1 ∙ ap (λ l. replicate (16 - n) 0 ++ l) (sym whole)) in
      (known.0 ∙ ap (value decimal_table) (take_all n s (omega arith)), known.1)
