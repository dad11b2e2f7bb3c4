-- Whole slices of 9 to 15 bytes, from their first eight and their last eight bytes, with a zero for a minus.
use Rattle.std.proofs.Common.{◌≡◌, ℕ, ◌+◌, ◌-◌, ◌*◌, ◌%◌, ◌^◌, ◌<◌, ◌≤◌, Bool, true, List, [], ◌∷◌, length, take, drop, get_or, sym, ap, ◌∙◌, arith, if◌then◌else◌, take_all, take-suc}
use Rattle.std.proofs.lemmas.Bool.Decides.{nat_tests}
use Rattle.atoi_core.specs.Digit.{decimal_table}
use Rattle.atoi_core.specs.Run.{run_len, run, value}
use Rattle.atoi_core.specs.Words.{low_bytes, low_value, word_of}
use Rattle.atoi_core.specs.IntType.{IntType, bound_of}
use Rattle.atoi_core.specs.Sign.{with_sign}
use Rattle.atoi_core.specs.declared.engine.window.Window.{Window}
use Rattle.atoi_core.proofs.lemmas.Runs.{run_all}
use Rattle.atoi_fast.specs.Short.{IsNumber, zero_for_minus}
use Rattle.atoi_fast.proofs.lemmas.ShortNumbers.{whole_is}
use Rattle.atoi_fast.proofs.lemmas.ShortPrefixes.{rest_after_minus}
use Rattle.atoi_fast.proofs.lemmas.SignedWords.{zeroed, zeroed_fits, zeroed_word, first_of_word, length-zeroed}
use Rattle.atoi_fast.proofs.lemmas.WordWindows.{run_of_ends, window_of_ends}

-- If both words are all digits, with a zero for a minus, so is the slice.
module _ (minus : Bool) (s : List ℕ) (enough : 8 < length s) (few : length s < 16) (fits : (i : ℕ) → get_or s i 0 < 256)
    (is_minus : minus ≡ true → get_or s 0 0 ≡ 45) (word back first last : ℕ) (word_is : word ≡ word_of (take 8 s))
    (back_is : back ≡ (if minus then 1 else 0)) (first_is : first ≡ (word + 3 * back) % 2 ^ 64)
    (last_is : last ≡ word_of (drop (length s - 8) s)) (small : word < 2 ^ 64)
    (first_full : run_len decimal_table (low_bytes 8 first) ≡ 8) (last_full : run_len decimal_table (low_bytes 8 last) ≡ 8) where
  abbrev signed_slice : List ℕ
  signed_slice = zero_for_minus minus s

  signed_length : length signed_slice ≡ length s
  signed_length = length-zeroed minus s (omega arith)

  starts_with_minus : minus ≡ true → word % 256 ≡ 45
  starts_with_minus e = first_of_word s word (omega arith) fits word_is ∙ is_minus e

  first_word : first ≡ word_of (take 8 signed_slice)
  first_word =
      let added : first ≡ zeroed minus word = grind (arith, nat_tests, starts_with_minus) in
      added ∙ zeroed_word minus s word (omega arith) fits word_is starts_with_minus

  last_word : last ≡ word_of (drop (length signed_slice - 8) signed_slice)
  last_word =
      rw signed_length
      (last_is ∙ ap word_of (sym (rest_after_minus minus (length s - 8) s (omega arith))))

  pub two_words_whole : (int : IntType) (high low number : ℕ) → (minus ≡ true → int.signed ≡ true)
      → high ≡ low_value (low_bytes (length s - 8) first) → low ≡ low_value (low_bytes 8 last)
      → number ≡ high * 10 ^ 8 + low → number ≤ bound_of int minus → IsNumber int s (with_sign minus number)
  two_words_whole int high low number signed high_is low_is number_is in_range =
      let enough_signed : 8 < length signed_slice = omega (arith, signed_length) in
      let few_signed : length signed_slice < 16 = omega (arith, signed_length) in
      let ends = run_of_ends signed_slice enough_signed few_signed (zeroed_fits minus s fits) first last first_word last_word first_full in
      let window = window_of_ends signed_slice enough_signed few_signed (zeroed_fits minus s fits) first last first_word last_word
      first_full (length s) 8 high low (sym last_full) (omega (arith, signed_length)) (rw signed_length high_is) low_is in
      let all : run_len decimal_table signed_slice ≡ length s = omega (arith, ends, last_full, signed_length) in
      let whole : take 16 signed_slice ≡ signed_slice = take_all 16 signed_slice (omega (arith, signed_length)) in
      let spelled : number ≡ value decimal_table signed_slice =
      number_is ∙ ap (λ (w : Window). w.number) window ∙ ap (λ l. value decimal_table (run decimal_table l)) whole
      ∙ ap (value decimal_table) (run_all decimal_table signed_slice (all ∙ sym signed_length)) in
      let sign : (if minus then 1 else 0) < length s = grind (arith, nat_tests) in
      whole_is int minus s number (λ e. (signed e, take-suc s 0 0 (omega arith) ∙ ap (λ b. b ∷ []) (is_minus e))) sign (omega arith)
      all spelled in_range
