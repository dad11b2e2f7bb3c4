-- Whole slices of 2 to 8 bytes, whose minus becomes a zero in the word that is filled with zeros.
use Rattle.std.proofs.Common.{◌≡◌, ℕ, ◌-◌, ◌*◌, ◌%◌, ◌^◌, ◌<◌, ◌≤◌, Bool, true, false, List, [], ◌∷◌, ◌++◌, length, take, replicate, get_or, refl, sym, ap, ◌∙◌, arith, if◌then◌else◌, pow_mono, take_all, take-suc}
use Rattle.std.specs.Int.Bits.{bit_xor, xor_assoc, xor_zero_r}
use Rattle.std.proofs.lemmas.Nat.{xor_comm}
use Rattle.std.proofs.lemmas.Bool.Decides.{nat_tests}
use Rattle.atoi_core.specs.Digit.{decimal_table}
use Rattle.atoi_core.specs.Run.{run_len, run, value}
use Rattle.atoi_core.specs.Words.{low_bytes, low_value, word_of}
use Rattle.atoi_core.specs.IntType.{IntType, bound_of}
use Rattle.atoi_core.specs.Sign.{with_sign}
use Rattle.atoi_core.specs.declared.engine.window.Window.{Window}
use Rattle.atoi_core.proofs.lemmas.Runs.{run_all}
use Rattle.atoi_core.proofs.lemmas.WordFields.{repeated}
use Rattle.atoi_fast.specs.Short.{IsNumber, zero_for_minus}
use Rattle.atoi_fast.proofs.lemmas.LoadedWords.{minus_flipped}
use Rattle.atoi_fast.proofs.lemmas.ShortNumbers.{whole_is}
use Rattle.atoi_fast.proofs.lemmas.SignedWords.{length-zeroed, zeroed_fits}
use Rattle.atoi_fast.proofs.lemmas.WordRuns.{flipped_back}
use Rattle.atoi_fast.proofs.lemmas.WordWindows.{filled_digits, filled_window}

-- The word of m zeros and the slice, xor zeros: to flip a minus once more makes it a zero.
zero_flipped : (minus : Bool) (m : ℕ) (s : List ℕ) (flipped : ℕ) → m < 8 → (minus ≡ true → get_or s 0 0 ≡ 45)
    → flipped ≡ bit_xor (word_of (replicate m 48 ++ s)) (repeated 48 8)
    → bit_xor flipped (2 ^ (m * 8) * (0x1D * (if minus then 1 else 0)) % 2 ^ 64)
    ≡ bit_xor (word_of (replicate m 48 ++ zero_for_minus minus s)) (repeated 48 8)
zero_flipped false m s flipped room is_minus flipped_is =
    let none : 2 ^ (m * 8) * 0 % 2 ^ 64 ≡ 0 = omega arith in
    rw none (xor_zero_r flipped ∙ flipped_is)
zero_flipped true m s flipped room is_minus flipped_is =
    let word = word_of (replicate m 48 ++ s) in
    let zeros = repeated 48 8 in
    let bits = 0x1D * 2 ^ (m * 8) in
    let place : 2 ^ (m * 8) ≤ 2 ^ 56 = pow_mono {i = m * 8} {j = 56} (omega arith) in
    let whole : 2 ^ (m * 8) * 0x1D % 2 ^ 64 ≡ bits = omega arith in
    rw (whole, flipped_is)
    (xor_assoc word zeros bits ∙ ap (bit_xor word) (xor_comm zeros bits) ∙ sym (xor_assoc word bits zeros)
    ∙ ap (λ x. bit_xor x zeros) (minus_flipped m s (is_minus refl)))

-- If the word is all digits, with a zero for a minus, so is the slice.
module _ (minus : Bool) (s : List ℕ) (some : 2 ≤ length s) (few : length s ≤ 8) (fits : (i : ℕ) → get_or s i 0 < 256)
    (is_minus : minus ≡ true → get_or s 0 0 ≡ 45) (loaded factor back flipped : ℕ)
    (loaded_is : loaded ≡ bit_xor (word_of (replicate (8 - length s) 48 ++ s)) (repeated 48 8))
    (factor_is : factor ≡ 2 ^ (64 - 8 * length s)) (back_is : back ≡ (if minus then 1 else 0))
    (flipped_is : flipped ≡ bit_xor loaded (factor * (0x1D * back) % 2 ^ 64))
    (full : run_len decimal_table (low_bytes 8 (bit_xor flipped (repeated 48 8))) ≡ 8) where
  abbrev zeroed : List ℕ
  zeroed = zero_for_minus minus s

  zeroed_length : length zeroed ≡ length s
  zeroed_length = length-zeroed minus s (omega arith)

  filled_is : bit_xor flipped (repeated 48 8) ≡ word_of (replicate (8 - length zeroed) 48 ++ zeroed)
  filled_is =
      let m = 8 - length s in
      let shift : 64 - 8 * length s ≡ m * 8 = omega arith in
      let zero_is = zero_flipped minus m s loaded (omega arith) is_minus loaded_is in
      rw (flipped_is, factor_is, shift, back_is, zero_is, zeroed_length) (flipped_back _ (repeated 48 8))

  all : run_len decimal_table zeroed ≡ length s
  all =
      let digits = filled_digits zeroed (omega (arith, zeroed_length)) (zeroed_fits minus s fits) _ 8 filled_is (sym full) in
      omega (arith, zeroed_length, digits)

  pub short_whole : (int : IntType) (number : ℕ) → (minus ≡ true → int.signed ≡ true)
      → number ≡ low_value (low_bytes 8 (bit_xor flipped (repeated 48 8))) → number ≤ bound_of int minus
      → IsNumber int s (with_sign minus number)
  short_whole int number signed number_is in_range =
      let window = filled_window zeroed (omega (arith, zeroed_length)) (zeroed_fits minus s fits) (bit_xor flipped (repeated 48 8)) 8
      (length s) number filled_is (sym full) (omega (arith, zeroed_length)) number_is in
      let whole : take 16 zeroed ≡ zeroed = take_all 16 zeroed (omega (arith, zeroed_length)) in
      let spelled : number ≡ value decimal_table zeroed =
      ap (λ (w : Window). w.number) window ∙ ap (λ l. value decimal_table (run decimal_table l)) whole
      ∙ ap (value decimal_table) (run_all decimal_table zeroed (all ∙ sym zeroed_length)) in
      let sign : (if minus then 1 else 0) < length s = grind (arith, nat_tests) in
      whole_is int minus s number (λ e. (signed e, take-suc s 0 0 (omega arith) ∙ ap (λ b. b ∷ []) (is_minus e))) sign (omega arith)
      all spelled in_range
