-- The digits of a word in half a vector.
use Rattle.std.proofs.Common.{◌≡◌, ℕ, zero, suc, ◌+◌, ◌-◌, ◌*◌, ◌/◌, ◌%◌, ◌^◌, ◌<◌, ◌≤◌, List, [], ◌∷◌, ◌++◌, length, take, replicate, refl, subst, sym, ap, ap₂, ◌∙◌, arith, lit<, mod-lt, zero-lt-suc, bit_and, bit_xor, take_all, take_at}
use Rattle.std.proofs.lemmas.Nat.{and_block, and_mask, shr_split}
use Rattle.std.proofs.lemmas.Simd.{Each1-replicate, Each1-weaker}
use Rattle.atoi_core.specs.Digit.{decimal_table}
use Rattle.atoi_core.specs.Run.{run_len, value}
use Rattle.atoi_core.specs.Words.{low_bytes, low_value, word_of}
use Rattle.atoi_core.proofs.lemmas.WordFields.{repeated}
use Rattle.atoi_core.proofs.lemmas.LoweredWords.{lowered_value}
use Rattle.atoi_fast.specs.Vectors.{itself}
use Rattle.atoi_fast.proofs.lemmas.DigitLanes.{each-append}
use Rattle.atoi_fast.proofs.lemmas.JoinedDigits.{number-digits}
use Rattle.atoi_fast.proofs.lemmas.LaneWindows.{lanes-of_bytes}
use Rattle.atoi_fast.proofs.lemmas.WordRuns.{flipped_lowered}
use lib.Lanes.{Each1, digits_l}

halves_below : (k word : ℕ) → Each1 (λ x. x < 16) (digits_l 256 k (bit_and word (repeated 15 k)))
halves_below zero word = tt
halves_below (suc k) word =
    let block = rw (shr_split word 8)
    at (and_block 8 (word / 256) (repeated 15 k) (word % 256) 15 (mod-lt word (zero-lt-suc 255)) (lit< tt)) in
    let rest : bit_and word (repeated 15 (suc k)) / 256 ≡ bit_and (word / 256) (repeated 15 k) =
    omega (arith, block, and_mask (word % 256) 4) in
    (omega (arith, block, and_mask (word % 256) 4), rw rest (halves_below k (word / 256)))

-- Bytes below 16 spell what their lower halves spell.
spelled : (xs : List ℕ) → Each1 (λ x. x < 16) xs → value itself xs ≡ low_value xs
spelled [] h = refl
spelled (x ∷ xs) h =
    let same : x ≡ x % 16 = omega (arith, h.0) in
    ap₂ (λ m n. m * 10 ^ length xs + n) same (spelled xs h.1)

-- The first `len` bytes of a word, less 48, at the end of the half.
pub half_value : (len word ones : ℕ) (v : List ℕ) → len ≤ 8 → len ≤ run_len decimal_table (low_bytes 8 word)
    → ones ≡ (word + 0xCFCF_CFCF_CFCF_CFD0) % 2 ^ 64 * 2 ^ (64 - 8 * len) % 2 ^ 64 → v ≡ digits_l 256 16 ones
    → (value itself (take 8 v) ≡ low_value (low_bytes len word)) × Each1 (λ x. x < 16) v
unfolding low_bytes word_of
half_value len word ones v few digits ones_is lanes =
    let same = lowered_value len word ones few digits ones_is in
    let bytes = digits_l 256 8 ones in
    let below = subst (Each1 (λ x. x < 16)) (ap (digits_l 256 8) same.0) (halves_below 8 ones) in
    let in_lanes : v ≡ bytes ++ replicate 8 0 =
    lanes ∙ ap (digits_l 256 16) (sym (number-digits 256 8 ones (lit< tt) (omega (arith, ones_is))))
    ∙ lanes-of_bytes 8 bytes (Each1-weaker (λ x. x < 16) (λ x. x < 256) (λ x lt. omega arith) bytes below) (omega arith)
    ∙ take_all 16 (bytes ++ replicate 8 0) (omega arith) in (
      ap (λ l. value itself (take 8 l)) in_lanes ∙ ap (value itself) (take_at bytes (replicate 8 0) 8 refl) ∙ spelled bytes below ∙ same.1,
      subst (Each1 (λ x. x < 16)) (sym in_lanes)
          (each-append (λ x. x < 16) bytes (replicate 8 0) below (Each1-replicate (λ x. x < 16) 8 0 (lit< tt))),
    )

-- Eight digits xor zeros need no shift.
pub flipped_half : (word : ℕ) (v : List ℕ) → word < 2 ^ 64 → run_len decimal_table (low_bytes 8 (bit_xor word (repeated 48 8))) ≡ 8
    → v ≡ digits_l 256 16 word
    → (value itself (take 8 v) ≡ low_value (low_bytes 8 (bit_xor word (repeated 48 8)))) × Each1 (λ x. x < 16) v
flipped_half word v fits full lanes =
    let lower = (bit_xor word (repeated 48 8) + 0xCFCF_CFCF_CFCF_CFD0) % 2 ^ 64 in
    let same : word ≡ lower = flipped_lowered word fits full in
    half_value 8 (bit_xor word (repeated 48 8)) word v (omega arith) (omega arith) (same ∙ omega arith) lanes
