-- Shuffles: lanes from a place of a vector between zeros.
use Rattle.std.proofs.Common.{◌≡◌, ℕ, ◌+◌, ◌-◌, ◌<◌, ◌≤◌, List, ◌++◌, map, length, take, drop, replicate, get_or, refl, subst, ◌∙◌, arith, rules, w8}
use Rattle.std.specs.List.{range_with_len}
use Rattle.std.proofs.lemmas.List.FromFn.{get_or-range_with_len, length-range_with_len}
use Rattle.std.proofs.lemmas.Simd.{Each1-get_or, SwzOk, pick_l_whole, swz_l}
use Rattle.atoi_core.specs.Lanes.{padded_start}
use Rattle.atoi_fast.specs.Vectors.{padded}
use lib.Lanes.{Each1}

-- The table `SHIFTS`.
abbrev shifts : List ℕ
shifts = replicate 16 128 ++ (range_with_len 0 16 ++ replicate 16 128)

pub each_from : (P : ℕ → Type 0) (a n : ℕ) → Each1 P (range_with_len a n) → (k : ℕ) → a ≤ k → k < a + n → P k
each_from P a n each k from to =
    subst P (get_or-range_with_len a n (k - a) 0 (omega arith) ∙ omega arith)
    (Each1-get_or P (range_with_len a n) (k - a) 0 (omega (arith, length-range_with_len a n)) each)

-- The 16 entries from a place on select 16 lanes.
abbrev Shuffled : List ℕ → ℕ → Type 0
Shuffled v p = swz_l w8 16 v 0 (take 16 (take (48 - p) (drop p shifts))) ≡ take 16 (drop p (padded v))

pub shuffled : (p : ℕ) (v : List ℕ) → p ≤ 32 → length v ≡ 16
    → swz_l w8 16 v 0 (take 16 (take (48 - p) (drop p shifts))) ≡ take 16 (drop p (padded v))
shuffled p v le long =
    subst (λ w. Shuffled w p) (pick_l_whole 0 v 16 long)
    (each_from (Shuffled (map (λ i. get_or v i 0) (range_with_len 0 16))) 0 33 (search rules) p (omega arith) (omega arith))

pub shuffle_ok : (p : ℕ) → p ≤ 32 → SwzOk w8 16 16 0 (take 16 (take (48 - p) (drop p shifts)))
shuffle_ok p le =
    each_from (λ k. SwzOk w8 16 16 0 (take 16 (take (48 - k) (drop k shifts)))) 0 33 (search rules) p (omega arith) (omega arith)

-- From place n on, the first n lanes are last.
abbrev FirstAtEnd : List ℕ → ℕ → Type 0
FirstAtEnd v n = take 16 (drop n (padded v)) ≡ replicate (16 - n) 0 ++ take n v

pub first_at_end : (n : ℕ) (v : List ℕ) → n ≤ 16 → length v ≡ 16 → FirstAtEnd v n
first_at_end n v le long =
    subst (λ w. FirstAtEnd w n) (pick_l_whole 0 v 16 long)
    (each_from (FirstAtEnd (map (λ i. get_or v i 0) (range_with_len 0 16))) 0 17 (search rules) n (omega arith) (omega arith))

-- The last 16 of 16 to 31 bytes, moved, are the bytes after the first 16.
abbrev LastMoved : List ℕ → Type 0
LastMoved s = take 16 (drop (48 - length s) (padded (take 16 (drop (length s - 16) s)))) ≡ padded_start 16 (drop 16 s)

pub after_first_16 : (s : List ℕ) → 16 ≤ length s → length s < 32
    → take 16 (drop (48 - length s) (padded (take 16 (drop (length s - 16) s)))) ≡ padded_start 16 (drop 16 s)
after_first_16 s enough short =
    subst LastMoved (pick_l_whole 0 s (length s) refl)
    (each_from (λ n. LastMoved (map (λ i. get_or s i 0) (range_with_len 0 n))) 16 16 (search rules) (length s) enough short)
