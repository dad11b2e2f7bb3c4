-- Windows that are read by words.
use Rattle.std.proofs.Common.{◌≡◌, ℕ, ◌+◌, ◌*◌, ◌%◌, ◌^◌, ◌<◌, ◌≤◌, List, ◌++◌, length, take, drop, get_or, take-take, sym, ◌∙◌, arith, min, ◌==◌, if◌then◌else◌, bit_or}
use Rattle.std.proofs.Math.Seq.{take-add}
use Rattle.atoi_core.specs.Words.{word_of, low_bytes, low_value}
use Rattle.std.proofs.lemmas.Bool.{ne_eqb}
use Rattle.std.proofs.lemmas.Bool.Decides.{nat_tests}
use Rattle.std.proofs.lemmas.List.Sums.{prefix_len-le-length}
use Rattle.atoi_core.specs.Digit.{decimal_table, is_digit}
use Rattle.atoi_core.specs.Run.{run_len, zeros, value}
use Rattle.atoi_core.specs.Reading.{window_of}
use Rattle.atoi_core.specs.declared.engine.window.Window.{Window}
use Rattle.atoi_core.proofs.lemmas.Runs.{prefix_len-take, prefix_len-drop, value-take-add}
use Rattle.atoi_core.proofs.lemmas.LoadedWords.{words_joined, fits_after, loaded_bytes, loaded_run, loaded_part, loaded_zeros}

-- A window of `c` bytes, by its three numbers.
pub window_from : (c : ℕ) (s : List ℕ) (len leading number : ℕ)
    → len ≡ run_len decimal_table (take c s)
    → leading ≡ (if len == c then zeros decimal_table (take c s) else 0)
    → number ≡ value decimal_table (take len s)
    → ◌≡◌ {A = Window} (record { len = len; zeroes = leading; number = number }) (window_of decimal_table c s)
window_from c s len leading number len_is leading_is number_is = search (arith, prefix_len-take, take-take)

pub loaded_window : (s : List ℕ) → ((i : ℕ) → get_or s i 0 < 256) → (word : ℕ) (w : Window) → word ≡ word_of (take 8 s)
    → w.len ≡ run_len decimal_table (low_bytes 8 word)
    → w.zeroes ≡ (if w.len == 8 then zeros decimal_table (low_bytes 8 word) else 0)
    → w.number ≡ low_value (low_bytes w.len word)
    → w ≡ window_of decimal_table 8 s
loaded_window s fits word w is len_is zeroes_are number_is =
    window_from 8 s w.len w.zeroes w.number
    (len_is ∙ loaded_run 8 s fits word is)
    (rw (loaded_zeros 8 s fits word is) at zeroes_are)
    (number_is ∙ loaded_part 8 s fits word is w.len (omega arith))

-- The window of 16 bytes in which the run ends.
pub window_ended : (s : List ℕ) (len number : ℕ) → len ≡ run_len decimal_table s → len < 16 → number ≡ value decimal_table (take len s)
    → ◌≡◌ {A = Window} (record { len = len; zeroes = 0; number = number }) (window_of decimal_table 16 s)
window_ended s len number len_is short number_is =
    let more : run_len decimal_table (take 16 s) ≡ min 16 (run_len decimal_table s) = prefix_len-take (is_digit decimal_table) 16 s in
    window_from 16 s len 0 number (omega arith) (rw (ne_eqb len 16 (omega arith))) number_is

-- The windows of a slice whose first word is `first`.
module _ (s : List ℕ) (fits : (i : ℕ) → get_or s i 0 < 256) (first : ℕ) (first_is : first ≡ word_of (take 8 s)) where
  pub first_run : run_len decimal_table (low_bytes 8 first) ≡ min 8 (run_len decimal_table s)
  first_run = loaded_run 8 s fits first first_is ∙ prefix_len-take (is_digit decimal_table) 8 s

  pub window_short : (len number : ℕ) → len ≡ run_len decimal_table (low_bytes 8 first) → len < 8 → number ≡ low_value (low_bytes len first)
      → ◌≡◌ {A = Window} (record { len = len; zeroes = 0; number = number }) (window_of decimal_table 16 s)
  window_short len number len_is short number_is =
      window_ended s len number (omega (arith, first_run)) (omega (arith, first_run))
      (number_is ∙ loaded_part 8 s fits first first_is len (omega arith))

  pub enough_bytes : 8 ≤ run_len decimal_table (low_bytes 8 first) → 8 ≤ length s
  enough_bytes full = omega (arith, first_run, prefix_len-le-length (is_digit decimal_table) s)

  -- Eight digits, and `more` in the next word.
  module _ (next more : ℕ) (next_is : next ≡ word_of (take 8 (drop 8 s))) (full : 8 ≤ run_len decimal_table (low_bytes 8 first))
      (more_is : more ≡ run_len decimal_table (low_bytes 8 next)) where
    run_is : (run_len decimal_table s ≡ 8 + run_len decimal_table (drop 8 s)) × (more ≡ min 8 (run_len decimal_table (drop 8 s)))
    run_is = (
      prefix_len-drop (is_digit decimal_table) 8 s (omega (arith, first_run)),
      more_is ∙ loaded_run 8 (drop 8 s) (fits_after 8 s fits) next next_is ∙ prefix_len-take (is_digit decimal_table) 8 (drop 8 s),
    )

    two_words : (leading number : ℕ) → leading ≡ (if more == 8 then zeros decimal_table (take 16 s) else 0)
        → number ≡ value decimal_table (take (8 + more) s)
        → ◌≡◌ {A = Window} (record { len = 8 + more; zeroes = leading; number = number }) (window_of decimal_table 16 s)
    two_words leading number leading_is number_is =
        let same_test : (more == 8) ≡ (8 + more == 16) = grind (arith, nat_tests) in
        window_from 16 s (8 + more) leading number (omega (arith, run_is, prefix_len-take (is_digit decimal_table) 16 s))
        (rw (← same_test) leading_is) number_is

    -- The window of 16 follows from both words,
    pub window_joined : (leading high low : ℕ)
        → leading ≡ (if more == 8 then zeros decimal_table (low_bytes 8 first ++ low_bytes 8 next) else 0)
        → high ≡ low_value (low_bytes 8 first) → low ≡ low_value (low_bytes more next)
        → ◌≡◌ {A = Window} (record { len = 8 + more; zeroes = leading; number = high * 10 ^ more + low }) (window_of decimal_table 16 s)
    window_joined leading high low leading_is high_is low_is =
        let within = prefix_len-le-length (is_digit decimal_table) s in
        let following = prefix_len-le-length (is_digit decimal_table) (drop 8 s) in
        let zeros_are : more ≡ 8 → zeros decimal_table (low_bytes 8 first ++ low_bytes 8 next) ≡ zeros decimal_table (take 16 s) =
        λ e. rw (
          loaded_bytes 8 s fits first first_is (omega (arith, run_is)),
          loaded_bytes 8 (drop 8 s) (fits_after 8 s fits) next next_is (omega (arith, run_is)),
          ← take-add 8 8 s,
        ) in
        let leading_zeros : leading ≡ (if more == 8 then zeros decimal_table (take 16 s) else 0) = grind (arith, nat_tests, zeros_are) in
        let parts = value-take-add decimal_table 8 more s (omega (arith, run_is)) in
        two_words leading (high * 10 ^ more + low) leading_zeros
        (rw (
          high_is,
          low_is,
          loaded_part 8 s fits first first_is 8 full,
          loaded_part 8 (drop 8 s) (fits_after 8 s fits) next next_is more (omega arith),
        ) (sym parts))

    -- or from the word of all sixteen bytes.
    pub window_of_16 : first < 2 ^ 64 → next < 2 ^ 64 → (leading number : ℕ) → let both = bit_or (next * 2 ^ 64 % 2 ^ 128) first in
        leading ≡ (if more == 8 then zeros decimal_table (low_bytes 16 both) else 0) → number ≡ low_value (low_bytes (8 + more) both)
        → ◌≡◌ {A = Window} (record { len = 8 + more; zeroes = leading; number = number }) (window_of decimal_table 16 s)
    window_of_16 small small_next leading number leading_is number_is =
        let both = bit_or (next * 2 ^ 64 % 2 ^ 128) first in
        let is : both ≡ word_of (take 16 s) = words_joined s first next (enough_bytes full) first_is next_is small small_next in
        let run : 8 + more ≤ run_len decimal_table (low_bytes 16 both) =
        omega (arith, run_is, loaded_run 16 s fits both is, prefix_len-take (is_digit decimal_table) 16 s) in
        two_words leading number (rw (loaded_zeros 16 s fits both is) at leading_is)
        (number_is ∙ loaded_part 16 s fits both is (8 + more) run)
