-- The lanes of a slice, and the windows and readings that they show.
use Rattle.std.proofs.Common.{◌≡◌, ℕ, ◌+◌, ◌-◌, ◌*◌, ◌^◌, ◌≤◌, List, [], ◌∷◌, ◌++◌, length, take, drop, replicate, get_or, Fits, w8, lit<, inl, inr, sym, ap, ◌∙◌, arith}
use Rattle.std.specs.List.{range_with_len}
use Rattle.std.proofs.lemmas.Bool.{cases_lt}
use Rattle.std.proofs.lemmas.List.{take_all, length-append, length-drop, length-replicate, length-take-le, take-take}
use Rattle.std.proofs.lemmas.List.Sums.{prefix_len-le-length}
use Rattle.std.proofs.lemmas.Simd.{Each1-chunk, Each1-from_get_or, Each1-replicate, pick_l_left, pick_l-range_with_len}
use Rattle.atoi_core.specs.Digit.{decimal_table, is_digit}
use Rattle.atoi_core.specs.Run.{run_len, value}
use Rattle.atoi_core.proofs.lemmas.Runs.{prefix_len-drop, prefix_len-take, value-take-add}
use Rattle.atoi_core.specs.Lanes.{padded_start}
use lib.Lanes.{Each1, pick_l}

each-append : (xs ys : List ℕ) → Each1 (Fits w8) xs → Each1 (Fits w8) ys → Each1 (Fits w8) (xs ++ ys)
each-append [] ys h k = k
each-append (x ∷ xs) ys h k = (h.0, each-append xs ys h.1 k)

-- Lanes of 0 after a slice change nothing.
module _ (n : ℕ) (s : List ℕ) where
  pub length_padded : length (padded_start n s) ≡ n
  length_padded = length-take-le n (s ++ replicate n 0) (omega (arith, length-append s (replicate n 0), length-replicate {A = ℕ} n 0))

  pub padded_fits : ((i : ℕ) → Fits w8 (get_or s i 0)) → Each1 (Fits w8) (padded_start n s)
  padded_fits fits =
      Each1-chunk (Fits w8) 0 n _ (each-append s (replicate n 0)
      (Each1-from_get_or (Fits w8) s 0 (λ i _. fits i)) (Each1-replicate (Fits w8) n 0 (record { fits = lit< tt })))

-- The lanes that `extract` takes of 32.
module _ (v : List ℕ) (long : length v ≡ 32) where
  pub first_half : pick_l 0 (v ++ v) (range_with_len 0 16) ≡ take 16 v
  first_half = pick_l_left 0 v v 32 (range_with_len 0 16) long tt ∙ pick_l-range_with_len 0 v 0 16 (omega (arith, long))

  pub second_half : pick_l 0 (v ++ v) (range_with_len 16 16) ≡ drop 16 v
  second_half =
      pick_l_left 0 v v 32 (range_with_len 16 16) long tt ∙ pick_l-range_with_len 0 v 16 16 (omega (arith, long))
      ∙ take_all 16 (drop 16 v) (omega (arith, long, length-drop 16 v))

-- A run of n digits, of which the first 16 are in one half and the others in the next.
module _ (n : ℕ) (v : List ℕ) (digits : n ≤ run_len decimal_table v) where
  pub halves_run : (n - (n - 16) ≤ run_len decimal_table (take 16 v)) × (n - 16 ≤ run_len decimal_table (drop 16 v))
  halves_run =
      let first : n - (n - 16) ≤ run_len decimal_table (take 16 v) = omega (arith, prefix_len-take (is_digit decimal_table) 16 v) in (
        first,
        elim (cases_lt n 16)
            [ inl few ↦ omega arith | inr many ↦ omega (arith, prefix_len-drop (is_digit decimal_table) 16 v (omega arith)) ],
      )

  pub halves_value : value decimal_table (take (n - (n - 16)) (take 16 v)) * 10 ^ (n - 16)
      + value decimal_table (take (n - 16) (drop 16 v)) ≡ value decimal_table (take n v)
  halves_value =
      let room : n ≤ length v = omega (arith, prefix_len-le-length (is_digit decimal_table) v) in
      elim (cases_lt n 16) [
        | inl few ↦
            let none : n - 16 ≡ 0 = omega arith in
            let all : n - 0 ≡ n = omega arith in
            rw (none, all, take-take n 16 v (omega arith)) (omega arith)
        | inr many ↦
            let first : n - (n - 16) ≡ 16 = omega arith in
            let both : 16 + (n - 16) ≡ n = omega arith in
            rw (first, take-take 16 16 v (omega arith)) (sym (value-take-add decimal_table 16 (n - 16) v (omega arith))
            ∙ ap (λ k. value decimal_table (take k v)) both)
      ]
