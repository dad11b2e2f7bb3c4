-- Windows that are read by words.
use Rattle.std.proofs.Common.{◌≡◌, ℕ, zero, suc, ◌+◌, ◌-◌, ◌*◌, ◌^◌, ◌<◌, ◌≤◌, List, length, refl, sym, ◌∙◌, arith, drop, ap, ◌++◌, take, replicate, get_or, suc-add, zero-add, ne_eqb}
use Rattle.std.specs.Simd.Lanes.{digits_l, number_l}
use Rattle.atoi_core.specs.Words.{low_bytes, low_value, word_of}
use Rattle.atoi_core.specs.Digit.{decimal_table, is_digit}
use Rattle.atoi_core.specs.Run.{run_len}
use Rattle.std.proofs.lemmas.List.{take_all, length-drop, length-append, length-replicate}
use Rattle.std.proofs.lemmas.List.Sums.{prefix_len-le-length}
use Rattle.atoi_core.specs.Reading.{window_of}
use Rattle.atoi_core.specs.declared.engine.window.Window.{Window}
use Rattle.atoi_core.proofs.lemmas.Runs.{prefix_len-drop, prefix_len-replicate_append, value-take-add}
use Rattle.atoi_core.proofs.lemmas.LoadedWords.{fits_after, loaded_run, loaded_part}
use Rattle.atoi_core.proofs.lemmas.WordWindows.{window_ended, first_run}

-- Below eight bytes, both windows are the same.
pub few_in_both : (s : List ℕ) → length s < 8 → window_of decimal_table 16 s ≡ window_of decimal_table 8 s
few_in_both s few = search (arith, prefix_len-le-length, take_all, ne_eqb)

-- The last eight of 9 to 15 bytes overlap the first eight, which are digits.
module _ (s : List ℕ) (enough : 8 < length s) (few : length s < 16) (fits : (i : ℕ) → get_or s i 0 < 256) (first last : ℕ)
    (first_is : first ≡ word_of (take 8 s)) (last_is : last ≡ word_of (drop (length s - 8) s))
    (full : run_len decimal_table (low_bytes 8 first) ≡ 8) where
  back_is : last ≡ word_of (take 8 (drop (length s - 8) s))
  back_is = last_is ∙ ap word_of (sym (take_all 8 (drop (length s - 8) s) (omega (arith, length-drop (length s - 8) s))))

  -- The run ends among the last eight bytes.
  pub run_of_ends : (run_len decimal_table s ≡ length s - 8 + run_len decimal_table (low_bytes 8 last)) × (8 ≤ run_len decimal_table s)
  run_of_ends =
      let front = length s - 8 in
      let eight : 8 ≤ run_len decimal_table s = omega (arith, full, first_run s fits first first_is) in
      let within = prefix_len-le-length (is_digit decimal_table) (drop front s) in
      let back = prefix_len-drop (is_digit decimal_table) front s (omega arith) in
      let counted = first_run (drop front s) (fits_after front s fits) last back_is in
      (omega (arith, back, counted, length-drop front s), eight)

  pub window_of_ends : (len more high low : ℕ) → more ≡ run_len decimal_table (low_bytes 8 last) → len ≡ length s - 8 + more
      → high ≡ low_value (low_bytes (length s - 8) first) → low ≡ low_value (low_bytes more last)
      → ◌≡◌ {A = Window} (record { len = len; zeroes = 0; number = high * 10 ^ more + low }) (window_of decimal_table 16 s)
  window_of_ends len more high low more_is len_is high_is low_is =
      let front = length s - 8 in
      let run_is = run_of_ends in
      let within = prefix_len-le-length (is_digit decimal_table) s in
      let length_is : front + more ≡ len = omega arith in
      let parts = value-take-add decimal_table front more s (omega (arith, run_is)) in
      let front_value = loaded_part 8 s fits first first_is front (omega arith) in
      let back_value = loaded_part 8 (drop front s) (fits_after front s fits) last back_is more (omega arith) in
      window_ended s len (high * 10 ^ more + low) (omega (arith, run_is)) (omega (arith, run_is))
      (rw (high_is, low_is, front_value, back_value, ← length_is) (sym parts))

-- ---- Short slices in the highest bytes of a word

filled_fit : (m : ℕ) (s : List ℕ) → ((i : ℕ) → get_or s i 0 < 256) → (i : ℕ) → get_or (replicate m 48 ++ s) i 0 < 256
filled_fit zero s fits i = fits i
filled_fit (suc m) s fits zero = omega arith
filled_fit (suc m) s fits (suc i) = filled_fit m s fits i

pub filled_length : (m x : ℕ) (s : List ℕ) → length (replicate m x ++ s) ≡ m + length s
filled_length m x s = length-append (replicate m x) s ∙ ap (λ n. n + length s) (length-replicate m x)

-- The filled word begins with its zeros, then the run.
pub filled_digits : (s : List ℕ) → length s ≤ 8 → ((i : ℕ) → get_or s i 0 < 256) → (filled digits : ℕ)
    → filled ≡ word_of (replicate (8 - length s) 48 ++ s) → digits ≡ run_len decimal_table (low_bytes 8 filled)
    → digits ≡ 8 - length s + run_len decimal_table s
filled_digits s few fits filled digits filled_is digits_is =
    let m = 8 - length s in
    let bytes = replicate m 48 ++ s in
    let all : take 8 bytes ≡ bytes = take_all 8 bytes (omega (arith, filled_length m 48 s)) in
    digits_is ∙ loaded_run 8 bytes (filled_fit m s fits) filled (filled_is ∙ ap word_of (sym all))
    ∙ ap (run_len decimal_table) all ∙ prefix_len-replicate_append (is_digit decimal_table) 48 refl m s

-- Zeros before the other bytes add nothing to the weighted sum.
low_value_filled : (z k : ℕ) (s : List ℕ)
    → low_value (digits_l 256 (z + k) (word_of (replicate z 48 ++ s))) ≡ low_value (digits_l 256 k (word_of s))
unfolding word_of
low_value_filled zero k s = ap (λ n. low_value (digits_l 256 n (number_l 256 s))) (zero-add k)
low_value_filled (suc z) k s =
    rw (suc-add z k) (grind (arith, low_value_filled z k s))

-- The window of a short slice: the digits of the filled word, less its zeros.
pub filled_window : (s : List ℕ) → length s ≤ 8 → ((i : ℕ) → get_or s i 0 < 256) → (filled digits found number : ℕ)
    → filled ≡ word_of (replicate (8 - length s) 48 ++ s) → digits ≡ run_len decimal_table (low_bytes 8 filled)
    → found ≡ digits - (8 - length s) → number ≡ low_value (low_bytes digits filled)
    → ◌≡◌ {A = Window} (record { len = found; zeroes = 0; number = number }) (window_of decimal_table 16 s)
unfolding low_bytes
filled_window s few fits filled digits found number filled_is digits_is found_is number_is =
    let m = 8 - length s in
    let within = prefix_len-le-length (is_digit decimal_table) s in
    let all = filled_digits s few fits filled digits filled_is digits_is in
    let total : digits ≡ m + found = omega arith in
    let padded : word_of s ≡ word_of (take 8 s) = ap word_of (sym (take_all 8 s few)) in
    window_ended s found number (omega arith) (omega arith)
    ((rw (total, filled_is) at number_is) ∙ low_value_filled m found s
    ∙ loaded_part 8 s fits (word_of s) padded found (omega (arith, first_run s fits (word_of s) padded)))
