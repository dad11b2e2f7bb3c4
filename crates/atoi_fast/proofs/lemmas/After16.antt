-- The answers of 64 bits after sixteen digits, without skipping.
use Rattle.std.proofs.Common.{◌≡◌, ℕ, ◌+◌, ◌-◌, ◌^◌, ◌<◌, ◌≤◌, false, Ok, List, get_or, length, take, drop, min, refl, sym, ◌∙◌, arith, le-ltb, get_or-drop, take-take}
use Rattle.atoi_core.specs.Digit.{decimal_table, is_digit}
use Rattle.atoi_core.specs.Magnitude.{HasDigits, wide64, prefix_magnitude}
use Rattle.atoi_core.specs.Reading.{Reading, IsSkipped, answer_by_digits}
use Rattle.atoi_core.specs.Run.{run_len, value, zeros}
use Rattle.atoi_core.specs.Words.{low_bytes, word_of}
use Rattle.atoi_core.proofs.lemmas.Readings.{within, below, below_bound, all_decide}
use Rattle.atoi_core.proofs.lemmas.Runs.{decimal_below_ten, prefix_len-drop, prefix_len-take}
use Rattle.atoi_core.proofs.lemmas.LoadedWords.{loaded_run}

-- The first 24 bytes decide a 64-bit answer without skipping.
pub by_digits : (bound limit : ℕ) (s : List ℕ) (len number : ℕ) → limit ≤ 20
    → len ≡ min 24 (run_len decimal_table s) → number ≡ value decimal_table (take len s)
    → (len ≤ length s) × (number < 10 ^ len)
    × (answer_by_digits wide64 bound limit 0 len number s ≡ prefix_magnitude decimal_table wide64 bound limit false s)
by_digits bound limit s len number few len_is number_is =
    let count : len ≡ run_len decimal_table (take 24 s) = len_is ∙ sym (prefix_len-take (is_digit decimal_table) 24 s) in
    let none : IsSkipped decimal_table false s 0 = search arith in
    let reading : Reading decimal_table 24 s len (zeros decimal_table (take 24 s)) number =
    record { digits_are = count; leading_are = refl; number_is = cc (number_is, count, take-take len 24 s (omega arith)) } in (
      omega (arith, within reading),
      below reading decimal_below_ten,
      sym (all_decide wide64 bound limit (omega arith) none reading (λ on. absurd (cc on))),
    )

-- The word of bytes after digits has the digits that follow.
pub counted_after : (width at : ℕ) (s : List ℕ) (word : ℕ) → ((i : ℕ) → get_or s i 0 < 256)
    → at ≤ run_len decimal_table s → word ≡ word_of (take width (drop at s))
    → run_len decimal_table (low_bytes width word) ≡ min width (run_len decimal_table s - at)
counted_after width at s word fits full loaded =
    let rest : (i : ℕ) → get_or (drop at s) i 0 < 256 = λ i. rw get_or-drop (fits (at + i)) in
    let digit = is_digit decimal_table in
    omega (arith, loaded_run width (drop at s) rest word loaded, prefix_len-take digit width (drop at s), prefix_len-drop digit at s full)

-- Sixteen digits are fewer than the limit.
pub ended_at_16 : (bound limit : ℕ) (s : List ℕ) (high : ℕ) → 17 ≤ limit → limit ≤ 20 → HasDigits limit bound → run_len decimal_table s ≡ 16
    → high ≡ value decimal_table (take 16 s) → Ok (high, 16) ≡ prefix_magnitude decimal_table wide64 bound limit false s
ended_at_16 bound limit s high low few digits ends number_is =
    let known = by_digits bound limit s 16 high few (omega arith) number_is in
    let within_bound = below_bound limit bound 16 high digits (omega arith) known.1 in
    rw (le-ltb limit 16 (omega arith), le-ltb bound high (omega arith)) at known.2
