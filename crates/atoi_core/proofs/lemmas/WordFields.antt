-- Words as lists of fields: how products sum them, what bitwise operators do to each.
use Rattle.std.proofs.Common.{◌≡◌, ℕ, zero, suc, ◌+◌, ◌-◌, ◌*◌, ◌/◌, ◌%◌, ◌^◌, ◌<◌, ◌≤◌, List, [], ◌∷◌, length, refl, sym, ◌∙◌, arith, lit<, inl, inr, mod-lt}
use Rattle.std.proofs.Math.Nat.{add-mul-div_right, div-div-eq-div-mul, mul_comm, zero-mod, suc-mul, mul-le-mul_right, mul_assoc, pow-zero, pow-suc, suc-add, zero-add, mul-one, mod-eq_of_lt, pow-le-pow_right, div-one, eq-zero-or-pos}
use Rattle.std.proofs.Math.Pow.{mod-mod-pow, ones_lt, pow_mono}
use Rattle.std.proofs.lemmas.Nat.{pow_pos, pow-add, mod-pow-add, field_of, and_mask, and_block, shr_split, div-mul-add, mod-mul-add}
use Rattle.std.specs.Int.Bits.{bit_and, and_zero_r}
use Rattle.std.specs.Simd.Lanes.{digits_l}
use Rattle.atoi_core.specs.Words.{low_bytes, low_value}
use Rattle.std.proofs.Math.Numerals.{add-one}
use Rattle.std.specs.Int.Count.{count_trailing_zeros}

-- ---- One round of a weighted sum
-- A round joins neighbouring digits of base t: a mask, a product by 1 + t * 2^(h + h), a shift.

-- What the lower halves of k fields spell in base t, the lowest field first.
abbrev pub spelled : ℕ → ℕ → ℕ → ℕ → ℕ
spelled h t zero word = 0
spelled h t (suc k) word = (word % 2 ^ h) * t ^ k + spelled h t k (word / 2 ^ (h + h))

-- The mask that keeps these lower halves.
abbrev pub masks : ℕ → ℕ → ℕ
masks h zero = 0
masks h (suc k) = masks h k * 2 ^ (h + h) + (2 ^ h - 1)

abbrev pub twice : ℕ → ℕ
twice zero = zero
twice (suc m) = suc (suc (twice m))

-- A round, which leaves m fields of twice the size.
abbrev pub rounded : ℕ → ℕ → ℕ → ℕ → ℕ
rounded h t m word = bit_and word (masks h (twice m)) * (1 + t * 2 ^ (h + h)) % 2 ^ (m * ((h + h) + (h + h))) / 2 ^ (h + h)

half_below : (h : ℕ) → 2 ^ h - 1 < 2 ^ (h + h)
half_below h = let le : 2 ^ h ≤ 2 ^ (h + h) = pow_mono (omega arith) in omega (arith, ones_lt h)

mask_step : (h k word : ℕ) → bit_and word (masks h (suc k)) ≡ bit_and (word / 2 ^ (h + h)) (masks h k) * 2 ^ (h + h) + word % 2 ^ h
mask_step h k word =
    let b = 2 ^ (h + h) in
    let fields = and_block (h + h) (word / b) (masks h k) (word % b) (2 ^ h - 1) (mod-lt word (pow_pos (h + h))) (half_below h) in
    cc (shr_split word (h + h), fields, and_mask (word % b) h, mod-mod-pow word h h)

masked_low : (h k word : ℕ) → bit_and word (masks h k) % 2 ^ (h + h) < 2 ^ h
masked_low h zero word = search (arith, and_zero_r, zero-mod, pow_pos)
masked_low h (suc k) word = search (arith, mask_step, mod-mul-add, half_below, pow_pos)

-- The word after the multiplication and the shift, if nothing wraps.
spread : ℕ → ℕ → ℕ → ℕ
spread b t word = word / b + word * t

product_shifted : (b t word : ℕ) → 0 < b → word * (1 + t * b) / b ≡ spread b t word
unfolding spread
product_shifted b t word pos =
    let e : word * (1 + t * b) ≡ word + word * t * b = omega arith in
    rw e (add-mul-div_right word (word * t) pos)

-- Spreading adds to each field the one below it times t.
spread_pair : (b t u f g : ℕ) → f < b → spread b t ((u * b + g) * b + f) ≡ (spread b t u * b + (u % b + g * t)) * b + (g + f * t)
unfolding spread
spread_pair b t u f g below =
    let q = u / b in
    let r = u % b in
    let split : q * b + r ≡ u = omega arith in
    let e : ((u * b + g) * b + f) / b ≡ (q * b + r) * b + g = cc (split, div-mul-add (u * b + g) b f below) in
    rw e (omega arith)

power_of_square : (t m : ℕ) → (t * t) ^ m ≡ t ^ twice m
power_of_square t zero = pow-zero (t * t) ∙ sym (pow-zero t)
power_of_square t (suc m) = search (arith, pow-suc, power_of_square t m, mul_assoc)

-- A cut before a shift does not change what is spelled.
shift_after_cut : (g t m word : ℕ) → spelled g t m (word % 2 ^ (m * (g + g)) / 2 ^ g) ≡ spelled g t m (word / 2 ^ g)
shift_after_cut g t zero word = refl
shift_after_cut g t (suc m) word =
    let b = 2 ^ g in
    let w = 2 ^ (g + g) in
    let rest = word / w % 2 ^ (m * (g + g)) in
    let low_bits = word % 2 ^ (suc m * (g + g)) in
    let fits : word % w < w = mod-lt word (pow_pos (g + g)) in
    let cut : low_bits ≡ rest * w + word % w = rw suc-mul (mod-pow-add word (m * (g + g)) (g + g)) in
    let swap : (x : ℕ) → x / b / w ≡ x / w / b = λ x. cc (div-div-eq-div-mul x b w, mul_comm b w, div-div-eq-div-mul x w b) in
    let low : low_bits / b % b ≡ word / b % b = cc (field_of low_bits g g, cut, mod-mul-add rest w (word % w) fits, field_of word g g) in
    let high : low_bits / b / w ≡ rest / b = cc (swap low_bits, cut, div-mul-add rest w (word % w) fits) in
    cc (low, high, shift_after_cut g t m (word / w), swap word)

-- A round keeps what is spelled, if the sum of a pair fits in a field.
module _ (h t : ℕ) (room : (2 ^ h - 1) * (1 + t) < 2 ^ (h + h)) where
  two_digits : (f g : ℕ) → f < 2 ^ h → g < 2 ^ h → g + f * t < 2 ^ (h + h)
  two_digits f g f_below g_below = search (arith, mul-le-mul_right)

  spread_masked : (m word : ℕ) → spelled (h + h) (t * t) m (spread (2 ^ (h + h)) t (bit_and word (masks h (twice m))))
      ≡ spelled h t (twice m) word
  spread_masked zero word = refl
  spread_masked (suc m) word =
      let b = 2 ^ (h + h) in
      let f = word % 2 ^ h in
      let g = word / b % 2 ^ h in
      let rest = word / b / b in
      let u = bit_and rest (masks h (twice m)) in
      let g_below : g < 2 ^ h = mod-lt (word / b) (pow_pos h) in
      let lower : g + f * t < b = two_digits f g (mod-lt word (pow_pos h)) g_below in
      let fits : f < b = omega (arith, half_below h) in
      let whole : bit_and word (masks h (twice (suc m))) ≡ (u * b + g) * b + f =
      cc (mask_step h (suc (twice m)) word, mask_step h (twice m) (word / b)) in
      let above = spread b t u * b + (u % b + g * t) in
      let sums = spread b t (bit_and word (masks h (twice (suc m)))) in
      let is : sums ≡ above * b + (g + f * t) = rw whole (spread_pair b t u f g fits) in
      let low : sums % b ≡ g + f * t = rw is (mod-mul-add above b (g + f * t) lower) in
      let high : sums / 2 ^ ((h + h) + (h + h)) ≡ spread b t u =
      cc (
        pow-add 2 (h + h) (h + h),
        div-div-eq-div-mul sums b b,
        is,
        div-mul-add above b (g + f * t) lower,
        div-mul-add (spread b t u) b (u % b + g * t) (two_digits g (u % b) g_below (masked_low h (twice m) rest)),
      ) in
      rw (low, high, spread_masked m rest, power_of_square t m, pow-suc t (twice m)) (omega arith)

  pub round : (m word : ℕ) → spelled (h + h) (t * t) m (rounded h t m word) ≡ spelled h t (twice m) word
  round m word = search (arith, shift_after_cut, product_shifted, pow_pos, spread_masked)

-- ---- Fields of a word are its digits in a base 2^k

length-digits : (base k word : ℕ) → length (digits_l base k word) ≡ k
length-digits base zero word = refl
length-digits base (suc k) word = cc (length-digits base k (word / base))

pub digits_cut : (g k word : ℕ) → digits_l (2 ^ g) k (word % 2 ^ (k * g)) ≡ digits_l (2 ^ g) k word
digits_cut g zero word = refl
digits_cut g (suc k) word = search (arith, digits_cut g k (word / 2 ^ g), suc-mul, mod-pow-add, mod-mul-add, div-mul-add, pow_pos)

pub byte_more : (z : ℕ) → 2 ^ (suc z * 8) ≡ 256 * 2 ^ (z * 8)
byte_more z = rw (suc-mul z 8) (omega (arith, pow-add 2 (z * 8) 8))

-- Lowest bytes of 0 keep the weighted sum.
pub low_value_shifted : (z k word : ℕ) → low_value (digits_l 256 (z + k) (word * 2 ^ (z * 8))) ≡ low_value (digits_l 256 k word)
low_value_shifted zero k word = cc (zero-add k, mul-one word)
low_value_shifted (suc z) k word =
    let up : word * 2 ^ (suc z * 8) ≡ word * 2 ^ (z * 8) * 256 + 0 = rw byte_more (omega arith) in
    let low : word * 2 ^ (suc z * 8) % 256 ≡ 0 = omega arith in
    let high : word * 2 ^ (suc z * 8) / 256 ≡ word * 2 ^ (z * 8) = omega arith in
    rw (suc-add, low, high) (omega (arith, low_value_shifted z k word))

-- The weighted sum is what the lower halves spell.
pub spelled_by_bytes : (k word : ℕ) → spelled 4 10 k word ≡ low_value (digits_l 256 k word)
spelled_by_bytes zero word = refl
spelled_by_bytes (suc k) word = search (arith, length-digits, spelled_by_bytes k (word / 256))

-- The lowest `len` bytes, shifted to the top, keep their sum.
shifted_sum : (k count len word : ℕ) → k ≡ (count - len) * 8 → len ≤ count
    → spelled 4 10 count (word * 2 ^ k % 2 ^ (count * 8)) ≡ low_value (low_bytes len word)
unfolding low_bytes
shifted_sum k count len word e le = search (arith, spelled_by_bytes, digits_cut, low_value_shifted)

-- ---- Weighted sums of eight and of sixteen bytes

-- A word below half a field is its only digit.
pub one_field : (base half word : ℕ) → word < 2 ^ half → word ≡ spelled half base 1 word
one_field base half word below = rw pow-zero (omega (arith, mod-eq_of_lt below))

-- After two rounds, two fields spell the sum in base 10000.
pub two_rounds : (val len : ℕ) → len ≤ 8
    → spelled 16 10000 2 (rounded 8 100 2 (rounded 4 10 4 (val * 2 ^ (64 - 8 * len) % 2 ^ 64))) ≡ low_value (low_bytes len val)
two_rounds val len most =
    round 8 100 (lit< tt) 2 _ ∙ round 4 10 (lit< tt) 4 _ ∙ shifted_sum (64 - 8 * len) 8 len val (omega arith) most

-- A third round joins the two fields.
pub sum_8 : (val len : ℕ) → len ≤ 8
    → rounded 16 10000 1 (rounded 8 100 2 (rounded 4 10 4 (val * 2 ^ (64 - 8 * len) % 2 ^ 64))) ≡ low_value (low_bytes len val)
sum_8 val len most = one_field 100000000 32 _ (omega arith) ∙ round 16 10000 (lit< tt) 1 _ ∙ two_rounds val len most

-- Four rounds compute the weighted sum of at most 16 bytes.
pub sum_16 : (val len : ℕ) → len ≤ 16
    → rounded 32 100000000 1 (rounded 16 10000 2 (rounded 8 100 4 (rounded 4 10 8 (val * 2 ^ (128 - 8 * len) % 2 ^ 128))))
    ≡ low_value (low_bytes len val)
sum_16 val len most =
    one_field 10000000000000000 64 _ (omega arith)
    ∙ round 32 100000000 (lit< tt) 1 _
    ∙ round 16 10000 (lit< tt) 2 _
    ∙ round 8 100 (lit< tt) 4 _
    ∙ round 4 10 (lit< tt) 8 _
    ∙ shifted_sum (128 - 8 * len) 16 len val (omega arith) most

-- The sum of lower halves is at most 15 times 11..1.
places_most : (bytes : List ℕ) → 9 * low_value bytes + 15 ≤ 15 * 10 ^ length bytes
places_most [] = omega arith
places_most (byte ∷ bytes) = search (arith, mul-le-mul_right, pow-suc, places_most bytes)

pub sum_most : (count len val : ℕ) → len ≤ count → 9 * low_value (low_bytes len val) + 15 ≤ 15 * 10 ^ count
unfolding low_bytes
sum_most count len val most = search (arith, length-digits, pow-le-pow_right, places_most)

-- The word whose lowest k bytes are b.
abbrev pub repeated : ℕ → ℕ → ℕ
repeated b zero = 0
repeated b (suc k) = repeated b k * 256 + b

-- ---- Trailing zero bits

lowest_bit : (a n : ℕ) → n % 2 ^ suc a ≡ (n / 2 % 2 ^ a) * 2 + n % 2
lowest_bit a n = rw (← add-one a) (mod-pow-add n a 1)

halves : (a n : ℕ) → n / 2 / 2 ^ a ≡ n / 2 ^ suc a
halves a n = cc (div-div-eq-div-mul n 2 (2 ^ a), mul_comm 2 (2 ^ a), pow-suc 2 a)

-- If the lowest a bits are 0, the count goes on.
pub zero_field : (a b n : ℕ) → n % 2 ^ a ≡ 0 → count_trailing_zeros (a + b) n ≡ a + count_trailing_zeros b (n / 2 ^ a)
unfolding count_trailing_zeros
zero_field zero b n e = cc (zero-add b, div-one n, zero-add (count_trailing_zeros b (n / 1)))
zero_field (suc a) b n e =
    let split = lowest_bit a n in
    let even : n % 2 ≡ 0 = omega arith in
    let rest : n / 2 % 2 ^ a ≡ 0 = omega arith in
    rw (suc-add a b, even, zero_field a b (n / 2) rest, halves a n) (sym (suc-add a (count_trailing_zeros b (n / 2 ^ suc a))))

-- If one is set, the count is below a.
pub stopping_field : (a b n : ℕ) → 0 < n % 2 ^ a → count_trailing_zeros (a + b) n < a
unfolding count_trailing_zeros
stopping_field zero b n some = absurd (omega (arith, mod-lt n (pow_pos 0)))
stopping_field (suc a) b n some =
    let split = lowest_bit a n in
    rw suc-add
    (elim (eq-zero-or-pos (n % 2)) [
      | inl even ↦ rw even (omega (arith, stopping_field a b (n / 2) (omega arith)))
      | inr odd ↦ (let one : n % 2 ≡ 1 = omega arith in rw one (omega arith))
    ])
