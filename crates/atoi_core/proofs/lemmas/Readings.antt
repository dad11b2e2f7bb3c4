-- A reading of the start of a slice decides the answer of a wide type.
use Rattle.std.proofs.Common.{◌≡◌, ◌⊎◌, ℕ, ◌+◌, ◌-◌, ◌*◌, ◌^◌, ◌<◌, ◌≤◌, min, Bool, true, cond, eqb, ltb, List, length, take, drop, Some, None, Ok, Err, refl, ◌∙◌, inl, inr, arith, ne_eqb, le-ltb, take-take, length-take, length-take-le}
use Rattle.std.proofs.Math.Nat.{pow-le-pow_right}
use Rattle.std.proofs.lemmas.Bool.{cases_lt, lt-ltb}
use Rattle.std.proofs.lemmas.List.Sums.{prefix_len-le-length}
use Rattle.atoi_core.specs.Digit.{Table, IsBelowTen, is_digit, is_zero}
use Rattle.atoi_core.specs.Run.{run_len, run, zeros, value}
use Rattle.atoi_core.specs.Refusal.{Refusal, empty, size, overflow}
use Rattle.atoi_core.specs.Magnitude.{Class, narrow, HasDigits, prefix, skipped_zeros, unless_refused, prefix_magnitude}
use Rattle.atoi_core.specs.Reading.{Reading, IsSkipped, significant_digits, cap, answer_by_digits}
use Rattle.atoi_core.proofs.lemmas.Refusals.{refusal-is}
use Rattle.atoi_core.proofs.lemmas.Runs.{prefix_len-take, prefix_len-drop, zeros-le, value-below, value-take-add, value-drop_zeros}
use Rattle.std.proofs.lemmas.Bool.Decides.{nat_tests}

-- A reading, said of the slice that is not cut.
record Uncut (table : Table) (count : ℕ) (s : List ℕ) (digits leading number : ℕ) : Type 0 where
  digits_are : digits ≡ min count (run_len table s)
  leading_are : leading ≡ min count (zeros table s)
  number_is : number ≡ value table (take digits s)

module _ {table : Table} {count : ℕ} {s : List ℕ} {digits leading number : ℕ} where
  uncut_of : Reading table count s digits leading number → Uncut table count s digits leading number
  uncut_of reading = search (arith, prefix_len-take, take-take)

  reading_of : Uncut table count s digits leading number → Reading table count s digits leading number
  reading_of uncut = search (arith, prefix_len-take, take-take)

pub zeros_left : (table : Table) (count : ℕ) (s : List ℕ) (offset : ℕ) → offset ≤ zeros table s
    → zeros table (take count (drop offset s)) ≡ min count (zeros table s - offset)
zeros_left table count s offset within = search (arith, prefix_len-take, prefix_len-drop)

leading_both : (n m k z y : ℕ) → k ≡ min n z → (n ≤ z → z ≡ n + y) → cond (eqb k n) (n + min m y) k ≡ min (n + m) z
leading_both n m k z y k_is more = grind (arith, nat_tests)

pub join_readings : {table : Table} {count more : ℕ} {s : List ℕ} {leading high digits others low : ℕ}
    → Reading table count s count leading high → Reading table more (drop count s) digits others low
    → Reading table (count + more) s (count + digits) (cond (eqb leading count) (count + others) leading) (high * 10 ^ digits + low)
join_readings {table} {count} {more} {s} {leading} {digits = digits} first_window back =
    let a = uncut_of first_window in
    let b = uncut_of back in
    let rest : run_len table s ≡ count + run_len table (drop count s) =
    prefix_len-drop (is_digit table) count s (omega (arith, a.digits_are)) in
    let within : count + digits ≤ length s = omega (arith, a.digits_are, b.digits_are, prefix_len-le-length (is_digit table) s) in
    let leading_is = prefix_len-drop (is_zero table) count s in
    reading_of (search (arith, leading_both, value-take-add, leading_is))

module _ {table : Table} {count : ℕ} {s : List ℕ} {digits leading number : ℕ} (reading : Reading table count s digits leading number) where
  pub widened : {more : ℕ} → digits < count → count ≤ more → Reading table more s digits leading number
  widened ends longer =
      let uncut = uncut_of reading in
      reading_of (search (arith, zeros-le))

  pub within : (leading ≤ digits) × (digits ≤ min count (length s))
  within = search (arith, prefix_len-le-length, zeros-le, length-take)

  pub below : IsBelowTen table → number < 10 ^ digits
  below ten = search (arith, length-take-le, prefix_len-le-length, value-below)

first_refusal : {A : Type 0} (a b c : Bool) (p q r : Refusal) (v : A)
    → unless_refused (cond a (Some p) (cond b (Some q) (cond c (Some r) None))) v ≡ cond a (Err p) (cond b (Err q) (cond c (Err r) (Ok v)))
first_refusal a b c p q r v = grind (arith, nat_tests)

by_all_digits : (table : Table) (class : Class) (bound limit : ℕ) (skip : Bool) (s : List ℕ) (skipped significant : ℕ) → limit < cap class
    → skipped_zeros table skip s ≡ skipped → run_len table s ≡ skipped + significant
    → prefix_magnitude table class bound limit skip s ≡ answer_by_digits class bound limit skipped significant (value table (run table s)) s
by_all_digits table narrow bound limit skip s skipped significant less zeros_are total = absurd (omega arith)
by_all_digits table class bound limit skip s skipped significant less zeros_are total =
    let others : skipped + significant - skipped ≡ significant = omega arith in
    let too_long = size (skipped + min significant (cap class)) (drop skipped s) in
    rw (refusal-is table class bound limit prefix skip s, zeros_are, total, others)
    (first_refusal (eqb (skipped + significant) 0) (ltb limit significant) _ empty too_long (overflow (drop skipped s)) _)

counting_most : (skip : Bool) (digits leading : ℕ) → significant_digits skip digits leading ≤ digits
counting_most skip digits leading = grind (arith, nat_tests)

pub below_bound : (limit bound digits number : ℕ) → HasDigits limit bound → digits < limit → number < 10 ^ digits → number < bound
below_bound limit bound digits number bounds few small = search (arith, pow-le-pow_right)

module _ {table : Table} (class : Class) (bound limit : ℕ) (less : limit < cap class) where
  pub decided : {skip : Bool} {s : List ℕ} {offset count digits leading number : ℕ} → IsSkipped table skip s offset
      → Reading table count (drop offset s) digits leading number
      → (digits < count) ⊎ (cap class ≤ significant_digits skip digits leading)
      → prefix_magnitude table class bound limit skip s
      ≡ answer_by_digits class bound limit (offset + (digits - significant_digits skip digits leading))
      (significant_digits skip digits leading) number s
  decided {skip} {s} {offset} {count} {digits} {leading} {number} skipped reading enough =
      let body : List ℕ = drop offset s in
      let run_is : run_len table s ≡ offset + run_len table body =
      prefix_len-drop (is_digit table) offset s (omega (arith, skipped.zeros_only, zeros-le table s)) in
      let zeros_are : zeros table s ≡ offset + zeros table body = prefix_len-drop (is_zero table) offset s skipped.zeros_only in
      let zeros_most : zeros table body ≤ run_len table body = zeros-le table body in
      let uncut = uncut_of reading in
      let significant : ℕ = significant_digits skip digits leading in
      let most : significant ≤ digits = counting_most skip digits leading in
      let all_zeros : skip ≡ true → zeros table s ≡ offset + leading =
      λ on. elim enough [
        | inl ends ↦ omega (arith, uncut.digits_are, uncut.leading_are)
        | inr many ↦ omega (arith, uncut.digits_are, uncut.leading_are, rw on at many)
      ] in
      let front : ℕ = offset + (digits - significant) in
      let few : leading ≤ digits = omega (arith, uncut.digits_are, uncut.leading_are) in
      let skipped_are : skipped_zeros table skip s ≡ front = grind (arith, nat_tests, skipped.asked, all_zeros) in
      elim enough [
        | inl ends ↦
            let all : run_len table body ≡ digits = omega (arith, uncut.digits_are) in
            let number_is : value table (run table s) ≡ number =
            cc (value-drop_zeros table offset s skipped.zeros_only, all, uncut.number_is) in
            rw (← number_is) (by_all_digits table class bound limit skip s front significant less skipped_are (omega arith))
        | inr many ↦
            by_all_digits table class bound limit skip s front (run_len table s - front) less skipped_are (omega (arith, uncut.digits_are))
            ∙ search (arith, uncut.digits_are, ne_eqb, lt-ltb)
      ]

  -- Fewer digits than the limit spell a number within the bound.
  pub short_below : HasDigits limit bound → {skip : Bool} {s : List ℕ} {offset count digits leading number : ℕ}
      → IsSkipped table skip s offset
      → Reading table count (drop offset s) digits leading number → digits < count → digits < limit → number < 10 ^ digits
      → (number ≤ bound)
      × (prefix_magnitude table class bound limit skip s ≡ cond (eqb (offset + digits) 0) (Err empty) (Ok (number, offset + digits)))
  short_below bounds {skip} {s} {offset} {digits = digits} {leading} {number} skipped reading ends few small =
      let significant : ℕ = significant_digits skip digits leading in
      let most : significant ≤ digits = counting_most skip digits leading in
      let within : number < bound = below_bound limit bound digits number bounds few small in
      let total : offset + (digits - significant) + significant ≡ offset + digits = omega arith in (
        omega arith,
        decided skipped reading (inl ends)
            ∙ rw (le-ltb limit significant (omega arith), le-ltb bound number (omega arith), total) refl,
      )

  pub all_decide : {skip : Bool} {s : List ℕ} {offset digits leading number : ℕ} → IsSkipped table skip s offset
      → Reading table (cap class) (drop offset s) digits leading number → (skip ≡ true → leading ≡ 0)
      → prefix_magnitude table class bound limit skip s ≡ answer_by_digits class bound limit offset digits number s
  all_decide {skip} {s} {offset} {digits} {leading} {number} skipped reading none =
      let significant : significant_digits skip digits leading ≡ digits = grind (arith, nat_tests) in
      let enough : (digits < cap class) ⊎ (cap class ≤ significant_digits skip digits leading) =
      elim (cases_lt digits (cap class)) [ inl h ↦ inl h | inr h ↦ inr (omega (arith, significant)) ] in
      let at : offset + (digits - significant_digits skip digits leading) ≡ offset = omega (arith, significant) in
      rw (at, significant) at (decided skipped reading enough)

pub short : {table : Table} → IsBelowTen table → (class : Class) (bound limit : ℕ) → limit < cap class → HasDigits limit bound
    → {skip : Bool} {s : List ℕ} {offset count digits leading number : ℕ} → IsSkipped table skip s offset
    → Reading table count (drop offset s) digits leading number → digits < count → digits < limit
    → (number ≤ bound)
    × (prefix_magnitude table class bound limit skip s ≡ cond (eqb (offset + digits) 0) (Err empty) (Ok (number, offset + digits)))
short ten class bound limit less bounds skipped reading ends few =
    short_below class bound limit less bounds skipped reading ends few (below reading ten)
