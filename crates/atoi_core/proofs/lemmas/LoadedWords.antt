-- Words that hold the bytes of a slice.
use Rattle.std.proofs.Common.{◌≡◌, ℕ, zero, suc, ◌+◌, ◌-◌, ◌*◌, ◌/◌, ◌%◌, ◌^◌, ◌<◌, ◌≤◌, List, [], ◌∷◌, ◌++◌, length, take, drop, replicate, get_or, take-take, refl, sym, ap, ◌∙◌, arith, Bool, false}
use Rattle.std.proofs.Math.Nat.{div-one, div-le_self, zero-div, zero-mod, suc-mul, div-div-eq-div-mul}
use Rattle.std.proofs.lemmas.List.{take_all, take-append-drop, append-nil, length-drop, length-take, get_or-drop, get_or_past, drop-drop}
use Rattle.std.proofs.lemmas.Nat.{mod-pow-add, or_shifted}
use Rattle.std.specs.Int.{from_le_bytes, w32, w64}
use Rattle.std.specs.Int.Bits.{bit_or}
use Rattle.std.specs.Simd.Lanes.{Each1, number_l, digits_l}
use Rattle.atoi_core.specs.Words.{word_of, low_bytes, low_value}
use Rattle.std.proofs.lemmas.Bool.Decides.{nat_tests}
use Rattle.std.proofs.lemmas.Simd.{Each1-from_get_or, Each1-chunk}
use Rattle.std.proofs.lemmas.List.Sums.{prefix_len-le-length}
use Rattle.std.proofs.Math.Seq.{take-add}
use Rattle.std.specs.List.{prefix_len}
use Rattle.atoi_core.specs.Digit.{decimal_table, is_digit, is_zero}
use Rattle.atoi_core.specs.Run.{run_len, zeros, value}
use Rattle.atoi_core.proofs.lemmas.Runs.{prefix_len-take}
use Rattle.atoi_core.proofs.lemmas.WordFields.{byte_more}

-- ---- Loading a word from a slice

pub word_from_eight : (s : List ℕ) → length s ≤ 8 → from_le_bytes w64 s ≡ word_of s
unfolding word_of
word_from_eight [] few = omega arith
word_from_eight (a ∷ []) few = omega arith
word_from_eight (a ∷ b ∷ []) few = omega arith
word_from_eight (a ∷ b ∷ c ∷ []) few = omega arith
word_from_eight (a ∷ b ∷ c ∷ d ∷ []) few = omega arith
word_from_eight (a ∷ b ∷ c ∷ d ∷ e ∷ []) few = omega arith
word_from_eight (a ∷ b ∷ c ∷ d ∷ e ∷ f ∷ []) few = omega arith
word_from_eight (a ∷ b ∷ c ∷ d ∷ e ∷ f ∷ g ∷ []) few = omega arith
word_from_eight (a ∷ b ∷ c ∷ d ∷ e ∷ f ∷ g ∷ h ∷ []) few = omega arith
word_from_eight (a ∷ b ∷ c ∷ d ∷ e ∷ f ∷ g ∷ h ∷ i ∷ rest) few = absurd (omega arith)

pub word_from_four : (s : List ℕ) → length s ≤ 4 → from_le_bytes w32 s ≡ word_of s
word_from_four s few = omega (arith, word_from_eight s (omega arith), get_or_past {X = ℕ})

pub word_of_first : (s bytes : List ℕ) → bytes ≡ take 8 s → from_le_bytes w64 bytes ≡ word_of (take 8 s)
word_of_first s bytes e = rw e (word_from_eight (take 8 s) (omega (arith, length-take 8 s)))

-- A shift right by `k` bytes drops the first `k` bytes of the slice.
pub bytes_above : (k : ℕ) (s : List ℕ) → ((i : ℕ) → get_or s i 0 < 256) → word_of s / 2 ^ (k * 8) ≡ word_of (drop k s)
unfolding word_of
bytes_above zero s fits = div-one (number_l 256 s)
bytes_above (suc k) [] fits = zero-div (2 ^ (suc k * 8))
bytes_above (suc k) (b ∷ bs) fits =
    rw (byte_more, ← div-div-eq-div-mul) (grind (arith, bytes_above k bs (λ i. fits (suc i)), fits 0))

pub word_start : (n : ℕ) (s : List ℕ) → ((i : ℕ) → get_or s i 0 < 256) → word_of s % 2 ^ (n * 8) ≡ word_of (take n s)
unfolding word_of
word_start zero s fits = omega arith
word_start (suc n) [] fits = zero-mod (2 ^ (suc n * 8))
word_start (suc n) (b ∷ bs) fits =
    let word = b + 256 * number_l 256 bs in
    let rest : word / 256 ≡ number_l 256 bs = omega (arith, fits 0) in
    rw (suc-mul n 8) (omega (arith, rw rest at (mod-pow-add word (n * 8) 8), word_start n bs (λ i. fits (suc i)), fits 0))

-- The bytes from `at` on, of which n or fewer are there, are the highest of the last n.
pub word_of_rest : (n : ℕ) (s : List ℕ) (at : ℕ) → n ≤ length s → at ≤ length s → length s ≤ at + n → ((i : ℕ) → get_or s i 0 < 256)
    → word_of (drop (length s - n) s) / 2 ^ (8 * (at + n - length s)) ≡ word_of (take n (drop at s))
word_of_rest n s at enough inside few fits =
    let missing = at + n - length s in
    let bits : 8 * missing ≡ missing * 8 = omega arith in
    let above : length s - n + missing ≡ at = omega arith in
    ap (λ e. word_of (drop (length s - n) s) / 2 ^ e) bits
    ∙ bytes_above missing (drop (length s - n) s) (λ i. rw get_or-drop (fits (length s - n + i)))
    ∙ ap word_of (drop-drop missing (length s - n) s ∙ ap (λ k. drop k s) above
    ∙ sym (take_all n (drop at s) (omega (arith, length-drop at s))))

pub bytes : (s : List ℕ) → ((i : ℕ) → get_or s i 0 < 256) → Each1 (λ x. x < 256) s
bytes s fits = Each1-from_get_or (λ x. x < 256) s 0 (λ i _. fits i)

pub word_appended : (xs ys : List ℕ) → word_of (xs ++ ys) ≡ word_of ys * 2 ^ (length xs * 8) + word_of xs
unfolding word_of
word_appended [] ys = omega arith
word_appended (x ∷ xs) ys =
    let rest = word_appended xs ys in
    rw byte_more (omega arith)

-- Four to seven bytes: the first four, and above them what follows of the last four.
pub halves_joined : (s : List ℕ) (low high : ℕ) → 4 ≤ length s → length s < 8 → ((i : ℕ) → get_or s i 0 < 256)
    → low ≡ word_of (take 4 s) → high ≡ word_of (drop (length s - 4) s) → low < 2 ^ 32 → high < 2 ^ 32
    → bit_or (high / 2 ^ (64 - 8 * length s) * 2 ^ 32 % 2 ^ 64) low ≡ word_of s
halves_joined s low high enough few fits low_is high_is small small_high =
    let length_is : length (take 4 s) ≡ 4 = omega (arith, length-take 4 s) in
    let bits : 64 - 8 * length s ≡ 8 * (4 + 4 - length s) = omega arith in
    let all : take 4 (drop 4 s) ≡ drop 4 s = take_all 4 (drop 4 s) (omega (arith, length-drop 4 s)) in
    let rest : high / 2 ^ (64 - 8 * length s) ≡ word_of (drop 4 s) =
    ap (λ w. w / 2 ^ (64 - 8 * length s)) high_is ∙ ap (λ e. word_of (drop (length s - 4) s) / 2 ^ e) bits
    ∙ word_of_rest 4 s 4 enough enough (omega arith) fits ∙ ap word_of all in
    let below : word_of (drop 4 s) < 2 ^ 32 = omega (arith, rest, div-le_self high (2 ^ (64 - 8 * length s))) in
    let high_part : word_of (drop 4 s) * 2 ^ 32 % 2 ^ 64 ≡ word_of (drop 4 s) * 2 ^ 32 = omega arith in
    let parts = ap word_of (sym (take-append-drop 4 s)) ∙ word_appended (take 4 s) (drop 4 s) in
    rw (rest, high_part, or_shifted (word_of (drop 4 s)) 32 low small) (omega (arith, low_is, rw length_is at parts))

pub words_joined : (s : List ℕ) (first next : ℕ) → 8 ≤ length s → first ≡ word_of (take 8 s) → next ≡ word_of (take 8 (drop 8 s))
    → first < 2 ^ 64 → next < 2 ^ 64 → bit_or (next * 2 ^ 64 % 2 ^ 128) first ≡ word_of (take 16 s)
words_joined s first next enough first_is next_is small small_next =
    let length_is : length (take 8 s) ≡ 8 = omega (arith, length-take 8 s) in
    let high : next * 2 ^ 64 % 2 ^ 128 ≡ next * 2 ^ 64 = omega arith in
    rw (high, or_shifted next 64 first small, take-add 8 8 s, word_appended (take 8 s) (take 8 (drop 8 s)), length_is) (omega arith)

-- ---- Digits and zeros of a loaded word

pub digits-of_bytes : (n m : ℕ) (xs : List ℕ) → Each1 (λ x. x < 256) xs → n ≤ length xs + m
    → digits_l 256 n (number_l 256 xs) ≡ take n (xs ++ replicate m 0)
digits-of_bytes zero m xs h room = refl
digits-of_bytes (suc n) zero [] h room = absurd (omega arith)
digits-of_bytes (suc n) (suc m) [] h room = ap (λ ds. 0 ∷ ds) (digits-of_bytes n m [] tt (omega arith))
digits-of_bytes (suc n) m (x ∷ xs) h room = search (arith, digits-of_bytes n m xs h.1, h.0)

pub prefix_len-padded : (p : ℕ → Bool) → p 0 ≡ false → (n m : ℕ) (s : List ℕ)
    → prefix_len p (take n (s ++ replicate m 0)) ≡ prefix_len p (take n s)
prefix_len-padded p none zero m s = refl
prefix_len-padded p none (suc n) zero [] = refl
prefix_len-padded p none (suc n) (suc m) [] = rw none
prefix_len-padded p none (suc n) m (x ∷ xs) = cc (prefix_len-padded p none n m xs)

-- The lower halves of digits are their digit values.
pub low_value_is : (n : ℕ) (s : List ℕ) → n ≤ run_len decimal_table s → low_value (take n s) ≡ value decimal_table (take n s)
low_value_is zero s digits = refl
low_value_is (suc n) [] digits = absurd (omega arith)
low_value_is (suc n) (b ∷ bs) digits = grind (arith, nat_tests, low_value_is n bs)

-- The word of the first `width` bytes of a slice.
module _ (width : ℕ) (s : List ℕ) (fits : (i : ℕ) → get_or s i 0 < 256) (word : ℕ) (is : word ≡ word_of (take width s)) where
  loaded_start : (p : ℕ → Bool) → p 0 ≡ false → prefix_len p (low_bytes width word) ≡ prefix_len p (take width s)
  unfolding low_bytes word_of
  loaded_start p stops =
      ap (λ w. prefix_len p (digits_l 256 width w)) is
      ∙ ap (prefix_len p) (digits-of_bytes width width (take width s) (Each1-chunk _ 0 width s (bytes s fits)) (omega arith))
      ∙ prefix_len-padded p stops width width (take width s) ∙ ap (prefix_len p) (take-take width width s (omega arith))

  pub loaded_run : run_len decimal_table (low_bytes width word) ≡ run_len decimal_table (take width s)
  loaded_run = loaded_start (is_digit decimal_table) refl

  pub loaded_zeros : zeros decimal_table (low_bytes width word) ≡ zeros decimal_table (take width s)
  loaded_zeros = loaded_start (is_zero decimal_table) refl

  loaded_first : (n : ℕ) → n ≤ width → n ≤ length s → low_bytes n word ≡ take n s
  unfolding low_bytes word_of
  loaded_first n few enough =
      ap (digits_l 256 n) is
      ∙ digits-of_bytes n 0 (take width s) (Each1-chunk _ 0 width s (bytes s fits)) (omega (arith, length-take width s))
      ∙ ap (take n) (append-nil (take width s)) ∙ take-take n width s few

  pub loaded_bytes : width ≤ length s → low_bytes width word ≡ take width s
  loaded_bytes enough = loaded_first width (omega arith) enough

  -- The weighted sum of leading digits is their value.
  pub loaded_part : (len : ℕ) → len ≤ run_len decimal_table (low_bytes width word)
      → low_value (low_bytes len word) ≡ value decimal_table (take len s)
  loaded_part len within = search (arith, loaded_run, prefix_len-take, loaded_first, low_value_is, prefix_len-le-length)

pub fits_after : (n : ℕ) (s : List ℕ) → ((i : ℕ) → get_or s i 0 < 256) → (i : ℕ) → get_or (drop n s) i 0 < 256
fits_after n s fits i = rw get_or-drop (fits (n + i))

pub sum_of_none : (word len : ℕ) → len ≡ 0 → 0 ≡ low_value (low_bytes len word)
unfolding low_bytes
sum_of_none word len e = ap (λ l. low_value (low_bytes l word)) (sym e)
