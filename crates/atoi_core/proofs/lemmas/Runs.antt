-- The run of a slice: its length, its cuts and its value.
use Rattle.std.proofs.Common.{◌≡◌, ℕ, zero, suc, ◌+◌, ◌≤◌, min, Bool, true, List, [], ◌∷◌, take, drop, arith, ◌*◌, ◌^◌, ◌<◌, ◌++◌, length, refl, ap, ◌-◌, replicate, All, IsTrue, Option, get_or, Some, None, unwrap_or, eq-eqb, take-add, pow-add}
use Rattle.std.specs.List.{prefix_len}
use Rattle.atoi_core.specs.Digit.{Table, is_digit, digit_value, IsBelowTen, is_zero, decimal_table}
use Rattle.atoi_core.specs.Run.{run_len, zeros, run, value}
use Rattle.std.proofs.Math.Nat.{pow-succ', mul-le-mul_right, mul-le-mul_left, one-le-pow, pow-le-pow_right}
use Rattle.std.proofs.lemmas.List.{length-append, length-replicate, length-take-le, length-drop, take_all, take_more, take-take, take-append-drop}
use Rattle.std.proofs.lemmas.List.Sums.{prefix_len-le-length, prefix_len_passes, prefix_len-drop_yes, prefix_len-drop_no}
use Rattle.std.proofs.lemmas.Bool.Decides.{eqb_tells, nat_tests}
use Rattle.std.proofs.lemmas.List.Folds.{length-prefix_len, prefix_len-append, prefix_len-replicate}

-- ---- Slices that are cut

pub prefix_len-take : (p : ℕ → Bool) (n : ℕ) (s : List ℕ) → prefix_len p (take n s) ≡ min n (prefix_len p s)
prefix_len-take p zero s = omega arith
prefix_len-take p (suc n) [] = omega arith
prefix_len-take p (suc n) (b ∷ bs) = grind (arith, nat_tests, prefix_len-take p n bs)

pub prefix_len-drop : (p : ℕ → Bool) (n : ℕ) (s : List ℕ) → n ≤ prefix_len p s → prefix_len p s ≡ n + prefix_len p (drop n s)
prefix_len-drop p zero s = λ _. omega arith
prefix_len-drop p (suc n) [] = λ h. absurd (omega arith)
prefix_len-drop p (suc n) (b ∷ bs) =
    grind (arith, nat_tests, prefix_len-drop p n bs)

pub zeros-le : (table : Table) (s : List ℕ) → zeros table s ≤ run_len table s
zeros-le table [] = omega arith
zeros-le table (b ∷ bs) = grind (arith, nat_tests, zeros-le table bs)

-- ---- Values of digits

value-append : (table : Table) (xs ys : List ℕ) → value table (xs ++ ys) ≡ value table xs * 10 ^ length ys + value table ys
value-append table [] ys = omega arith
value-append table (x ∷ xs) ys = search (arith, length-append, pow-add, value-append table xs ys)

pub value-below : (table : Table) → IsBelowTen table → (xs : List ℕ) → value table xs < 10 ^ length xs
value-below table below [] = omega arith
value-below table below (x ∷ xs) = search (arith, pow-succ', mul-le-mul_right, value-below table below xs, below x)

pub value-take-add : (table : Table) (n k : ℕ) (s : List ℕ) → n + k ≤ length s →
    value table (take (n + k) s) ≡ value table (take n s) * 10 ^ k + value table (take k (drop n s))
value-take-add table n k s h = search (arith, take-add, value-append, length-take-le, length-drop)

value_of_zero : (table : Table) (byte : ℕ) → is_zero table byte ≡ true → digit_value table byte ≡ 0
value_of_zero table byte h = grind (arith, eqb_tells)

value-zeros : (table : Table) (n : ℕ) (s : List ℕ) → n ≤ zeros table s → value table (take n s) ≡ 0
value-zeros table zero s = λ _. refl
value-zeros table (suc n) [] = λ h. absurd (omega arith)
value-zeros table (suc n) (b ∷ bs) = grind (arith, nat_tests, value_of_zero, value-zeros table n bs)

pub value-drop_zeros : (table : Table) (n : ℕ) (s : List ℕ) → n ≤ zeros table s
    → value table (run table s) ≡ value table (run table (drop n s))
value-drop_zeros table n s h = search (arith, prefix_len-drop, zeros-le, prefix_len-le-length, value-take-add, value-zeros)

-- n + 1 digits without a leading zero spell at least 10^n.
pub value-least : (table : Table) (n : ℕ) (s : List ℕ) → suc n ≤ run_len table s → zeros table s ≡ 0 → 10 ^ n ≤ value table (take (suc n) s)
value-least table n [] = λ h z. absurd (omega arith)
value-least table n (b ∷ bs) = λ h z.
    let some : 1 ≤ digit_value table b = grind (arith, nat_tests) in
    let few : n ≤ run_len table bs = grind (arith, nat_tests) in
    let least : 1 * 10 ^ length (take n bs) ≤ digit_value table b * 10 ^ length (take n bs) =
    mul-le-mul_right (10 ^ length (take n bs)) some in
    omega (arith, ap (λ (m : ℕ). 10 ^ m) (length-take-le n bs (omega (arith, prefix_len-le-length (is_digit table) bs))))

-- ---- Runs that are cut or joined

pub prefix_len-replicate_append : {X : Type 0} (p : X → Bool) (x : X) → p x ≡ true → (n : ℕ) (xs : List X)
    → prefix_len p (replicate n x ++ xs) ≡ n + prefix_len p xs
prefix_len-replicate_append p x h n xs = search (arith, prefix_len-append, prefix_len-replicate, length-replicate, eq-eqb)

module _ (table : Table) where
  pub length-run : (s : List ℕ) → length (run table s) ≡ run_len table s
  length-run s = length-prefix_len (is_digit table) s

  pub digits_all : (s : List ℕ) → run_len table s ≡ length s → All (λ byte. IsTrue (is_digit table byte)) s
  digits_all s h = λ i d lt. prefix_len_passes (is_digit table) s i d (omega arith)

  pub run_all : (s : List ℕ) → run_len table s ≡ length s → run table s ≡ s
  run_all s h = take_all (run_len table s) s (omega arith)

  pub run_len-take : (n : ℕ) (s : List ℕ) → n ≤ run_len table s → run_len table (take n s) ≡ n
  run_len-take n s h = omega (arith, prefix_len-take (is_digit table) n s)

  pub run_len-run : (s : List ℕ) → run_len table (run table s) ≡ run_len table s
  run_len-run s = run_len-take (run_len table s) s (omega arith)

  pub zeros-run : (s : List ℕ) → zeros table (run table s) ≡ zeros table s
  zeros-run s = omega (arith, prefix_len-take (is_zero table) (run_len table s) s, zeros-le table s)

  pub value-ge : (s : List ℕ) → zeros table s < run_len table s
      → 10 ^ (run_len table s - zeros table s - 1) ≤ value table (run table s)
  value-ge s h =
      let z = zeros table s in
      let rest = drop z s in
      let parts : run_len table s ≡ z + run_len table rest = prefix_len-drop (is_digit table) z s (omega arith) in
      let no_zeros : z ≡ z + zeros table rest = prefix_len-drop (is_zero table) z s (omega arith) in
      let places : run_len table rest ≡ suc (run_len table s - z - 1) = omega arith in
      rw (value-drop_zeros table z s (omega arith), places)
      (value-least table (run_len table s - z - 1) rest (omega arith) (omega arith))

  pub value-replicate : (zero_digit : ℕ) → is_zero table zero_digit ≡ true → (n : ℕ) (s : List ℕ)
      → value table (replicate n zero_digit ++ s) ≡ value table s
  value-replicate z h zero s = refl
  value-replicate z h (suc n) s = rw (value_of_zero table z h) (omega (arith, value-replicate z h n s))

-- ---- Digit by digit

pub value_more : (table : Table) (s : List ℕ) (i w : ℕ) → i < length s → table (get_or s i 0) ≡ Some w
    → value table (take (i + 1) s) ≡ value table (take i s) * 10 + w
value_more table s i w here digit =
    rw (take_more s i 0 here, value-append table (take i s) (get_or s i 0 ∷ []), ← ap (λ (o : Option ℕ). unwrap_or o 0) digit) (grind arith)

value-append-le : (table : Table) (xs ys : List ℕ) → value table xs ≤ value table (xs ++ ys)
value-append-le table xs ys = search (arith, value-append, mul-le-mul_left, one-le-pow)

pub value-take-le : (table : Table) (s : List ℕ) (i j : ℕ) → i ≤ j → value table (take i s) ≤ value table (take j s)
value-take-le table s i j le =
    rw (← take-append-drop i (take j s), take-take i j s le) (value-append-le table (take i s) (drop i (take j s)))

-- A digit after i bytes of the run is in it.
pub run_more : (table : Table) (s : List ℕ) (i w : ℕ) → i < length s → table (get_or s i 0) ≡ Some w
    → i + run_len table (drop i s) ≡ run_len table s → i + 1 + run_len table (drop (i + 1) s) ≡ run_len table s
run_more table s i w here digit so_far = search (arith, prefix_len-drop_yes)

pub run_ends : (table : Table) (s : List ℕ) (i : ℕ) → i < length s → table (get_or s i 0) ≡ None
    → i + run_len table (drop i s) ≡ run_len table s → run_len table s ≡ i
run_ends table s i here none so_far = search (arith, prefix_len-drop_no)

pub decimal_below_ten : IsBelowTen decimal_table
decimal_below_ten byte = grind (arith, nat_tests)

pub digit_joins : (len number w : ℕ) → number < 10 ^ len → w < 10 → number * 10 + w < 10 ^ (len + 1)
digit_joins len number w small digit = rw (pow-add 10 len 1) (grind arith)

pub sixteen_digits : (len number : ℕ) → len ≤ 16 → number < 10 ^ len → number < 2 ^ 64
sixteen_digits len number short small = search (arith, pow-le-pow_right)

pub digit_is_below_ten : (table : Table) → IsBelowTen table → (byte w : ℕ) → table byte ≡ Some w → w < 10
digit_is_below_ten table small byte w digit = search (arith)
