-- Words that hold the bytes of a slice.
use Rattle.std.proofs.Common.{◌≡◌, ℕ, zero, suc, Bool, true, lit<, ap₂, ◌+◌, ◌-◌, ◌*◌, ◌/◌, ◌%◌, ◌^◌, ◌<◌, ◌≤◌, List, [], ◌∷◌, length, refl, sym, ◌∙◌, arith, inl, inr, mod-lt, ◌==◌, drop, ap, ◌++◌, take, replicate, get_or, if◌then◌else◌}
use Rattle.std.proofs.Math.Nat.{div-div-eq-div-mul, mul-div_cancel, suc-add, zero-add, add-zero}
use Rattle.std.proofs.lemmas.Nat.{pow_pos, pow-add, mod-pow-add, and_mask, shr_split, div-mul-add, mod-mul-add, and_assoc, or_block, xor_block, xor_shr, xor_mod, shl_whole, and_comm}
use Rattle.std.specs.Int.Bits.{bit_and, bit_or, bit_xor, and_self, or_add_and, or_zero_r, or_shifted_r, xor_lt, xor_self, xor_zero_r}
use Rattle.std.specs.Simd.Lanes.{digits_l, number_l}
use Rattle.atoi_core.specs.Words.{low_bytes, word_of}
use Rattle.atoi_core.specs.Digit.{decimal_table, is_zero}
use Rattle.atoi_core.specs.Run.{zeros}
use Rattle.atoi_core.proofs.lemmas.WordFields.{byte_more, repeated}
use Rattle.atoi_core.proofs.lemmas.LoweredWords.{shift_cut}
use Rattle.std.proofs.lemmas.List.{take_all, drop_all, drop_more, drop-drop, length-drop, get_or_past}
use Rattle.std.specs.Int.{from_le_bytes, w16, w64}
use Rattle.std.proofs.lemmas.Bool.{cases_lt, agree_below_at, eqb-true}
use Rattle.std.proofs.lemmas.List.Folds.{prefix_len-append}
use Rattle.atoi_core.proofs.lemmas.LoadedWords.{word_from_eight, bytes_above, fits_after, word_of_rest, word_start}

-- ---- Loading a word from a slice

pub word_from_two : (s : List ℕ) → length s ≤ 2 → from_le_bytes w16 s ≡ word_of s
word_from_two s few = omega (arith, word_from_eight s (omega arith), get_or_past {X = ℕ})

pub word_of_last : (s bytes : List ℕ) → bytes ≡ drop (length s - 8) s → from_le_bytes w64 bytes ≡ word_of (drop (length s - 8) s)
word_of_last s bytes e = rw e (word_from_eight (drop (length s - 8) s) (omega (arith, length-drop (length s - 8) s)))

-- Joining its own lowest `r` bits to a number changes nothing.
with_low_bits : (a r : ℕ) → bit_or (a % 2 ^ r) a ≡ a
with_low_bits a r =
    let low : bit_and (a % 2 ^ r) a ≡ a % 2 ^ r =
    cc (and_mask a r, and_assoc a a (2 ^ r - 1), and_comm (2 ^ r - 1) a, and_assoc (2 ^ r - 1) a a, and_self a) in
    omega (arith, or_add_and (a % 2 ^ r) a)

-- Low and high bits that overlap or meet join to the number.
overlap : (whole low high n k : ℕ) → low ≡ whole % 2 ^ n → high ≡ whole / 2 ^ k * 2 ^ k → k ≤ n → bit_or low high ≡ whole
overlap whole low high n k low_is high_is meet =
    let q = whole / 2 ^ k in
    let rest = whole % 2 ^ k in
    let bits : n ≡ n - k + k = omega arith in
    let cut : whole % 2 ^ n ≡ q % 2 ^ (n - k) * 2 ^ k + rest = ap (λ e. whole % 2 ^ e) bits ∙ mod-pow-add whole (n - k) k in
    let none : q * 2 ^ k ≡ q * 2 ^ k + 0 = omega arith in
    let block = or_block k (q % 2 ^ (n - k)) q rest 0 (mod-lt whole (pow_pos k)) (pow_pos k) in
    cc (low_is, cut, high_is, none, block, with_low_bits q (n - k), or_zero_r rest, shr_split whole k)

pub last_bytes : (s last : List ℕ) (at : ℕ) → 8 ≤ length s → at ≤ length s → length s < at + 8 → ((i : ℕ) → get_or s i 0 < 256)
    → last ≡ drop (length s - 8) s → from_le_bytes w64 last / 2 ^ (8 * (at + 8 - length s)) ≡ word_of (take 8 (drop at s))
last_bytes s last at enough inside few fits is =
    ap (λ w. w / 2 ^ (8 * (at + 8 - length s))) (word_of_last s last is) ∙ word_of_rest 8 s at enough inside (omega arith) fits

pub word_after_all : (s : List ℕ) (at : ℕ) → length s ≤ at → 0 ≡ word_of (take 8 (drop at s))
unfolding word_of
word_after_all s at all = rw (drop_all at s all) refl

-- ---- A slice of at most eight bytes, joined from overlapping parts

-- In the highest bytes of a word, the j lowest and the k highest of n bytes join.
module _ (n y : ℕ) (few : n ≤ 8) (fits : y < 2 ^ (n * 8)) where
  pub parts_joined : (j k front back : ℕ) → j ≤ n → k ≤ n → n ≤ j + k → front ≡ y % 2 ^ (j * 8)
      → back ≡ y / 2 ^ ((n - k) * 8) * 2 ^ ((8 - k) * 8) → bit_or (front * 2 ^ (64 - 8 * n) % 2 ^ 64) back ≡ y * 2 ^ ((8 - n) * 8)
  parts_joined j k front back front_in back_in meet front_is back_is =
      let z = (8 - n) * 8 in
      let whole = y * 2 ^ z in
      let shift : 64 - 8 * n ≡ z = omega arith in
      let below : front < 2 ^ (j * 8) = omega (arith, mod-lt y (pow_pos (j * 8))) in
      let low : front * 2 ^ (64 - 8 * n) % 2 ^ 64 ≡ whole % 2 ^ (j * 8 + z) =
      ap (λ e. front * 2 ^ e % 2 ^ 64) shift ∙ shl_whole front (j * 8) z 64 below (omega arith)
      ∙ ap (λ x. x * 2 ^ z) front_is ∙ sym (shift_cut y (j * 8) z) in
      let split : 2 ^ ((8 - k) * 8) ≡ 2 ^ z * 2 ^ ((n - k) * 8) = ap (λ e. 2 ^ e) (omega arith) ∙ pow-add 2 z ((n - k) * 8) in
      let top : whole / 2 ^ ((8 - k) * 8) ≡ y / 2 ^ ((n - k) * 8) =
      ap (λ p. whole / p) split ∙ sym (div-div-eq-div-mul whole (2 ^ z) (2 ^ ((n - k) * 8)))
      ∙ ap (λ x. x / 2 ^ ((n - k) * 8)) (mul-div_cancel y (pow_pos z)) in
      overlap whole _ _ (j * 8 + z) ((8 - k) * 8) low (back_is ∙ ap (λ x. x * 2 ^ ((8 - k) * 8)) (sym top)) (omega arith)

pub word_filled : (m : ℕ) (s : List ℕ) → word_of (replicate m 48 ++ s) ≡ word_of s * 2 ^ (m * 8) + repeated 48 m
unfolding word_of
word_filled zero s = omega arith
word_filled (suc m) s = rw byte_more (omega (arith, word_filled m s))

zeros_fit : (m : ℕ) → repeated 48 m < 2 ^ (m * 8)
zeros_fit zero = omega arith
zeros_fit (suc m) = rw byte_more (omega (arith, zeros_fit m))

zeros_joined : (m n : ℕ) → repeated 48 (m + n) ≡ repeated 48 n * 2 ^ (m * 8) + repeated 48 m
zeros_joined zero n = rw zero-add (omega arith)
zeros_joined (suc m) n = rw (suc-add, byte_more) (omega (arith, zeros_joined m n))

zeros_above : (m n : ℕ) → repeated 48 (m + n) / 2 ^ (m * 8) ≡ repeated 48 n
zeros_above m n = rw zeros_joined (div-mul-add (repeated 48 n) (2 ^ (m * 8)) (repeated 48 m) (zeros_fit m))

zeros_below : (m n : ℕ) → repeated 48 (m + n) % 2 ^ (m * 8) ≡ repeated 48 m
zeros_below m n = rw zeros_joined (mod-mul-add (repeated 48 n) (2 ^ (m * 8)) (repeated 48 m) (zeros_fit m))

abbrev flipped : List ℕ → ℕ
flipped s = bit_xor (word_of s) (repeated 48 (length s))

-- Of fewer than four bytes, each is flipped.
one_flipped : (b : ℕ) → b < 256 → bit_xor (bit_or b 0x3030_3000) 0x3030_3030 ≡ bit_xor b 48
one_flipped b small =
    let same : ℕ → Bool = λ n. bit_xor (bit_or n 0x3030_3000) 0x3030_3030 == bit_xor n 48 in
    eqb-true _ _ (agree_below_at same (λ _. true) 256 b refl small)

two_flipped : (two : ℕ) → two < 2 ^ 16 → bit_xor (bit_or 0x3030 (two * 2 ^ 16 % 2 ^ 32)) 0x3030_3030 ≡ bit_xor two 0x3030 * 2 ^ 16
two_flipped two small =
    let shifted : two * 2 ^ 16 % 2 ^ 32 ≡ two * 2 ^ 16 = omega arith in
    ap (λ x. bit_xor (bit_or 0x3030 x) 0x3030_3030) shifted ∙ ap (λ x. bit_xor x 0x3030_3030) (or_shifted_r two 16 0x3030 (lit< tt))
    ∙ xor_block 16 two 0x3030 0x3030 0x3030 (lit< tt) (lit< tt) ∙ omega arith

module _ (s : List ℕ) (few : length s ≤ 8) (fits : (i : ℕ) → get_or s i 0 < 256) where
  word_fits : word_of s < 2 ^ (length s * 8)
  word_fits =
      let all = word_start (length s) s fits ∙ ap word_of (take_all (length s) s (omega arith)) in
      omega (arith, mod-lt (word_of s) (pow_pos (length s * 8)))

  flipped_fits : flipped s < 2 ^ (length s * 8)
  flipped_fits = xor_lt (length s * 8) (word_of s) (repeated 48 (length s)) word_fits (zeros_fit (length s))

  flipped_first : (j : ℕ) → j ≤ length s → bit_xor (word_of (take j s)) (repeated 48 j) ≡ flipped s % 2 ^ (j * 8)
  flipped_first j inside =
      let zeros = zeros_below j (length s - j) in
      let all : j + (length s - j) ≡ length s = omega arith in
      sym (xor_mod (word_of s) (repeated 48 (length s)) (j * 8) ∙ ap₂ bit_xor (word_start j s fits) (rw all at zeros))

  flipped_last : (k : ℕ) → k ≤ length s
      → bit_xor (word_of (drop (length s - k) s)) (repeated 48 k) ≡ flipped s / 2 ^ ((length s - k) * 8)
  flipped_last k inside =
      let zeros = zeros_above (length s - k) k in
      let all : length s - k + k ≡ length s = omega arith in
      sym (xor_shr (word_of s) (repeated 48 (length s)) ((length s - k) * 8)
      ∙ ap₂ bit_xor (bytes_above (length s - k) s fits) (rw all at zeros))

  -- The zeros before the slice are 0 then.
  flipped_filled : bit_xor (word_of (replicate (8 - length s) 48 ++ s)) (repeated 48 8) ≡ flipped s * 2 ^ ((8 - length s) * 8)
  flipped_filled =
      let m = 8 - length s in
      let zeros = zeros_joined m (length s) in
      let all : m + length s ≡ 8 = omega arith in
      let block = xor_block (m * 8) (word_of s) (repeated 48 (length s)) (repeated 48 m) (repeated 48 m) (zeros_fit m) (zeros_fit m) in
      ap₂ bit_xor (word_filled m s) (rw all at zeros) ∙ block
      ∙ ap (λ r. flipped s * 2 ^ (m * 8) + r) (xor_self (repeated 48 m)) ∙ add-zero (flipped s * 2 ^ (m * 8))

  first_byte : 0 < length s → get_or s 0 0 ≡ word_of (take 1 s)
  unfolding word_of
  first_byte some = search (arith, drop_more)

  first_of_four : (first : ℕ) → 4 ≤ length s → first ≡ word_of (take 4 s) → bit_or (get_or s 0 0) first ≡ first
  first_of_four first four first_is =
      let start = first_byte (omega arith) in
      let low : get_or s 0 0 ≡ first % 2 ^ 8 = omega (arith, start, first_is, word_start 1 s fits, word_start 4 s fits) in
      ap (λ x. bit_or x first) low ∙ with_low_bits first 8

  last_fits : (k : ℕ) → k ≤ length s → word_of (drop (length s - k) s) < 2 ^ (k * 8)
  last_fits k inside =
      let end = drop (length s - k) s in
      let whole = word_start k end (fits_after (length s - k) s fits) ∙ ap word_of
      (take_all k end (omega (arith, length-drop (length s - k) s))) in
      omega (arith, mod-lt (word_of end) (pow_pos (k * 8)))

  last_of_four : (last two : ℕ) → 4 ≤ length s → last ≡ word_of (drop (length s - 4) s) → two ≡ word_of (drop (length s - 2) s)
      → bit_or last (two * 2 ^ 16 % 2 ^ 32) ≡ last
  last_of_four last two four last_is two_is =
      let small : last < 2 ^ 32 = rw last_is (last_fits 4 four) in
      let place : length s - 4 + 2 ≡ length s - 2 = omega arith in
      let end : two ≡ last / 2 ^ 16 =
      two_is ∙ sym (ap (λ w. w / 2 ^ 16) last_is ∙ bytes_above 2 (drop (length s - 4) s) (fits_after (length s - 4) s fits)
      ∙ ap word_of (drop-drop 2 (length s - 4) s ∙ ap (λ k. drop k s) place)) in
      overlap last last _ 32 16 (omega arith) (omega arith) (omega arith)

  -- The first four bytes and the last four, or the first byte and the last two.
  pub flipped_joined : (first last two : ℕ) → 2 ≤ length s
      → (4 ≤ length s → first ≡ word_of (take 4 s)) → (length s < 4 → first ≡ 0x3030_3000)
      → (4 ≤ length s → last ≡ word_of (drop (length s - 4) s)) → (length s < 4 → last ≡ 0x3030)
      → two ≡ word_of (drop (length s - 2) s)
      → bit_or (bit_xor (bit_or (get_or s 0 0) first) 0x3030_3030 * 2 ^ (64 - 8 * length s) % 2 ^ 64)
      (bit_xor (bit_or last (two * 2 ^ 16 % 2 ^ 32)) 0x3030_3030 * 2 ^ 32 % 2 ^ 64)
      ≡ bit_xor (word_of (replicate (8 - length s) 48 ++ s)) 0x3030_3030_3030_3030
  flipped_joined first last two some first_is no_first last_is no_last two_is =
      elim (cases_lt (length s) 4) [
        | inr four ↦
            (let front =
            ap (λ x. bit_xor x (repeated 48 4)) (first_of_four first four (first_is four) ∙ first_is four) ∙ flipped_first 4 four in
            let back =
            ap (λ x. bit_xor x (repeated 48 4)) (last_of_four last two four (last_is four) two_is ∙ last_is four) ∙ flipped_last 4 four in
            let top = xor_lt 32 (word_of (drop (length s - 4) s)) (repeated 48 4) (last_fits 4 four) (lit< tt) in
            let end = flipped_last 4 four in
            parts_joined (length s) (flipped s) few flipped_fits 4 4 _ _ four four (omega arith) front
            (ap (λ x. x * 2 ^ 32 % 2 ^ 64) back ∙ omega arith) ∙ sym flipped_filled)
        | inl short ↦
            (let front =
            ap (λ f. bit_xor (bit_or (get_or s 0 0) f) 0x3030_3030) (no_first short) ∙ one_flipped (get_or s 0 0) (fits 0)
            ∙ ap (λ x. bit_xor x 48) (first_byte (omega arith)) ∙ flipped_first 1 (omega arith) in
            let small : two < 2 ^ 16 = rw two_is (last_fits 2 some) in
            let back = ap (λ l. bit_xor (bit_or l (two * 2 ^ 16 % 2 ^ 32)) 0x3030_3030) (no_last short) ∙ two_flipped two small in
            let end = ap (λ x. bit_xor x 0x3030) two_is ∙ flipped_last 2 some in
            let top = xor_lt 16 two 0x3030 small (lit< tt) in
            parts_joined (length s) (flipped s) few flipped_fits 1 2 _ _ (omega arith) some (omega arith) front
            (ap (λ x. x * 2 ^ 32 % 2 ^ 64) back ∙ omega arith) ∙ sym flipped_filled)
      ]

-- Zeros of a second word follow only a word of zeros.
pub zeros_of_two : (first next : ℕ) → zeros decimal_table (low_bytes 8 first ++ low_bytes 8 next)
    ≡ (if zeros decimal_table (low_bytes 8 first) == 8 then 8 + zeros decimal_table (low_bytes 8 next)
    else zeros decimal_table (low_bytes 8 first))
unfolding low_bytes
zeros_of_two first next = prefix_len-append (is_zero decimal_table) (digits_l 256 8 first) (digits_l 256 8 next)

-- ---- A minus of a word that is filled with zeros

-- 0x1D makes it a zero.
pub minus_flipped : (m : ℕ) (s : List ℕ) → get_or s 0 0 ≡ 45
    → bit_xor (word_of (replicate m 48 ++ s)) (0x1D * 2 ^ (m * 8)) ≡ word_of (replicate m 48 ++ (48 ∷ drop 1 s))
unfolding word_of
minus_flipped m [] minus = absurd (omega arith)
minus_flipped m (b ∷ bs) minus =
    let rest = number_l 256 bs in
    let zeros = repeated 48 m in
    let shifted : 0x1D * 2 ^ (m * 8) ≡ 0x1D * 2 ^ (m * 8) + 0 = omega arith in
    let first : 45 + 256 * rest ≡ rest * 2 ^ 8 + 45 = omega arith in
    let byte : bit_xor (45 + 256 * rest) 0x1D ≡ 48 + 256 * rest =
    ap (λ x. bit_xor x 0x1D) first ∙ xor_block 8 rest 0 45 0x1D (lit< tt) (lit< tt) ∙ omega (arith, xor_zero_r rest) in
    rw (word_filled, word_filled, minus, shifted)
    (xor_block (m * 8) (45 + 256 * rest) 0x1D zeros 0 (zeros_fit m) (pow_pos (m * 8))
    ∙ ap₂ (λ x y. x * 2 ^ (m * 8) + y) byte (xor_zero_r zeros))
