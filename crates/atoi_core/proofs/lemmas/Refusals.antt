-- When a body is refused.
use Rattle.std.proofs.Common.{◌≡◌, ℕ, ◌+◌, ◌-◌, ◌<◌, ◌≤◌, min, Bool, true, false, cond, eqb, ltb, List, [], length, drop, Option, Some, None, option_map, refl, sym, ◌∙◌, arith, ltb-false, le-ltb, ne_eqb, eq-eqb}
use Rattle.std.proofs.lemmas.Bool.{eqb-false, lt-ltb}
use Rattle.std.proofs.lemmas.Bool.Decides.{nat_tests}
use Rattle.std.proofs.Math.Seq.{drop-length}
use Rattle.atoi_core.specs.Digit.{Table}
use Rattle.atoi_core.specs.Run.{run_len, run, value}
use Rattle.atoi_core.specs.Refusal.{Refusal, empty, size, overflow, rank, input_of}
use Rattle.atoi_core.specs.Magnitude.{Class, narrow, Extent, whole, prefix, skipped_zeros, Rule, rule_of, is_above, leaves_rest, invalid, refusal}
use Rattle.atoi_core.specs.IntType.{IntType, class_of, bound_of, limit_of}

-- The first of four results whose test holds.
abbrev pub first_of : {A : Type 0} → (a b c d : Bool) → (p q r s : A) → Option A
first_of a b c d p q r s = cond a (Some p) (cond b (Some q) (cond c (Some r) (cond d (Some s) None)))

first_none : (a b c d : Bool) (p q r s : Refusal) → first_of a b c d p q r s ≡ None
    → (a ≡ false) × (b ≡ false) × (c ≡ false) × (d ≡ false)
first_none a b c d p q r s h = grind (arith, nat_tests)

first_cases : (P : Refusal → Type 0) (a b c d : Bool) (p q r s reason : Refusal) → P p → P q → P r → P s
    → first_of a b c d p q r s ≡ Some reason → P reason
first_cases P a b c d p q r s reason hp hq hr hs h = grind arith

first_map : (a b c d : Bool) (p q r s : Refusal)
    → option_map rank (first_of a b c d p q r s) ≡ first_of a b c d (rank p) (rank q) (rank r) (rank s)
first_map a b c d p q r s = grind (arith, nat_tests)

-- The limit on digits, which does not depend on the digits.
abbrev pub limit_at : Class → Extent → Bool → ℕ → Option ℕ
limit_at class extent skip limit = (rule_of class extent skip limit 0 0).limit

limit-is : (class : Class) (extent : Extent) (skip : Bool) (limit digits skipped : ℕ)
    → (rule_of class extent skip limit digits skipped).limit ≡ limit_at class extent skip limit
limit-is narrow prefix true limit digits skipped = refl
limit-is class extent skip limit digits skipped = refl

abbrev pub significant_len : Table → Bool → List ℕ → ℕ
significant_len table skip body = run_len table body - skipped_zeros table skip body

-- The body is accepted: no test refuses it.
pub record IsAccepted (table : Table) (class : Class) (bound limit : ℕ) (extent : Extent) (skip : Bool) (body : List ℕ) : Type 0 where
  pub some : 0 < run_len table body
  pub short : is_above (limit_at class extent skip limit) (significant_len table skip body) ≡ false
  pub in_range : value table (run table body) ≤ bound
  pub ends : leaves_rest extent (run_len table body) (length body) ≡ false

rank-invalid : (class : Class) (number index : ℕ) (body : List ℕ) → rank (invalid class number index body) ≡ rank (invalid class 0 0 [])
rank-invalid class number index body = grind (arith, nat_tests)

input-invalid : (class : Class) (number index : ℕ) (body : List ℕ) → input_of (invalid class number index body) ≡ body
input-invalid class number index body = grind (arith, nat_tests)

module _ (table : Table) (class : Class) (bound limit : ℕ) (extent : Extent) (skip : Bool) (body : List ℕ) where
  -- The four tests, in their order, and their errors.
  abbrev pub is_empty : Bool
  is_empty = eqb (run_len table body) 0

  abbrev pub is_long : Bool
  is_long = is_above (limit_at class extent skip limit) (significant_len table skip body)

  abbrev pub is_over : Bool
  is_over = ltb bound (value table (run table body))

  abbrev pub is_followed : Bool
  is_followed = leaves_rest extent (run_len table body) (length body)

  abbrev pub rule : Rule
  rule = rule_of class extent skip limit (run_len table body) (skipped_zeros table skip body)

  abbrev pub too_long : Refusal
  too_long = size (skipped_zeros table skip body + min (significant_len table skip body) rule.cap)
      (drop (skipped_zeros table skip body) body)

  abbrev pub over : Refusal
  over = overflow (drop rule.dropped body)

  abbrev pub followed : Refusal
  followed = invalid class (value table (run table body)) (run_len table body) body

  pub refusal-is : refusal table class bound limit extent skip body
      ≡ first_of is_empty is_long is_over is_followed empty too_long over followed
  unfolding refusal
  refusal-is = search (arith, limit-is)

  pub refused_empty : run_len table body ≡ 0 → refusal table class bound limit extent skip body ≡ Some empty
  refused_empty none = search (arith, refusal-is, eq-eqb)

  pub refused_size : 0 < run_len table body → is_long ≡ true → refusal table class bound limit extent skip body ≡ Some too_long
  refused_size some long = refusal-is ∙ rw (ne_eqb (run_len table body) 0 (omega arith), long) refl

  pub refused_overflow : 0 < run_len table body → is_long ≡ false → bound < value table (run table body)
      → refusal table class bound limit extent skip body ≡ Some over
  refused_overflow some short above = search (arith, refusal-is, ne_eqb, lt-ltb)

  pub refusal-none : IsAccepted table class bound limit extent skip body → refusal table class bound limit extent skip body ≡ None
  refusal-none h = search (arith, refusal-is, ne_eqb, le-ltb)

  pub accepted : refusal table class bound limit extent skip body ≡ None → IsAccepted table class bound limit extent skip body
  accepted h =
      let tests = first_none is_empty is_long is_over is_followed empty too_long over followed (sym refusal-is ∙ h) in
      record {
        some = omega (arith, eqb-false (run_len table body) 0 tests.0);
        short = tests.1;
        in_range = ltb-false _ _ tests.2;
        ends = tests.3;
      }

  pub refusal-input : (reason : Refusal) → refusal table class bound limit extent skip body ≡ Some reason
      → (n : ℕ) × (input_of reason ≡ drop n body)
  refusal-input reason h =
      first_cases (λ r. (n : ℕ) × (input_of r ≡ drop n body)) is_empty is_long is_over is_followed empty too_long over followed reason
      (length body, sym (drop-length body)) (skipped_zeros table skip body, refl) (rule.dropped, refl) (0, input-invalid class _ _ body)
      (sym refusal-is ∙ h)

  pub refusal-rank : option_map rank (refusal table class bound limit extent skip body)
      ≡ first_of is_empty is_long is_over is_followed 0 1 2 (rank (invalid class 0 0 []))
  refusal-rank = search (arith, refusal-is, first_map, rank-invalid)

abbrev pub refused : Table → IntType → (minus : Bool) → Extent → Bool → List ℕ → Option Refusal
refused table int minus extent skip body = refusal table (class_of int) (bound_of int minus) (limit_of int) extent skip body

pub narrow_prefix_limit : (table : Table) (bound limit : ℕ) (skip : Bool) (s : List ℕ)
    → refusal table narrow bound limit prefix skip s ≡ refusal table narrow bound 0 prefix skip s
narrow_prefix_limit table bound limit skip s = grind (arith, nat_tests, refusal-is)

pub narrow_whole_limit : (table : Table) (bound limit : ℕ) (skip : Bool) (s : List ℕ)
    → refusal table narrow bound limit whole skip s ≡ refusal table narrow bound 0 whole false s
narrow_whole_limit table bound limit skip s = search (arith, refusal-is)
