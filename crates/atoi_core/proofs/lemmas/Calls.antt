-- Which sign precedes a body, and what an `Ok` means.
use Rattle.std.proofs.Common.{◌≡◌, ℕ, ◌+◌, ◌<◌, ◌≤◌, Bool, true, false, List, length, drop, Option, Some, None, refl, sym, ap, arith, ◌++◌, take, Result, Ok, Err, ℤ, eqb-true, eq-eqb}
use Rattle.std.proofs.lemmas.Bool.{cases_Bool, not-false}
use Rattle.atoi_core.specs.Digit.{Table, decimal_table, is_digit}
use Rattle.atoi_core.specs.Run.{run_len, run, value}
use Rattle.atoi_core.specs.Refusal.{Refusal}
use Rattle.atoi_core.specs.Magnitude.{Class, Extent, whole, prefix, is_above, unless_refused, whole_magnitude, prefix_magnitude}
use Rattle.std.proofs.lemmas.Bool.Decides.{nat_tests}
use Rattle.atoi_core.specs.IntType.{IntType, class_of, bound_of, limit_of}
use Rattle.atoi_core.specs.Sign.{Sign, sign_of, with_sign}
use Rattle.atoi_core.specs.Laws.{SignForm, sign_in, whole_call, prefix_call}
use Rattle.atoi_core.specs.Answer.{map_answer, whole_answer, prefix_answer, with_more}
use Rattle.std.proofs.lemmas.List.Sums.{prefix_len-le-length}
use Rattle.atoi_core.proofs.lemmas.Refusals.{limit_at, significant_len, IsAccepted, accepted, refusal-none}

-- ---- The sign at the start of a slice

pub drop-taken : (int : IntType) (form : SignForm) (s : List ℕ) → drop (sign_in int form s).taken s ≡ (sign_in int form s).body
drop-taken int form s = grind (arith, nat_tests)

pub length-taken : (int : IntType) (form : SignForm) (s : List ℕ) → (sign_in int form s).taken + length (sign_in int form s).body ≡ length s
length-taken int form s = grind (arith, nat_tests)

pub digit_in_range : (byte : ℕ) → is_digit decimal_table byte ≡ true → (48 ≤ byte) × (byte ≤ 57)
digit_in_range byte h = grind (arith, nat_tests)

pub sign_of_digits : (signed plus : Bool) (s : List ℕ) → 0 < run_len decimal_table s
    → sign_of signed plus s ≡ record { minus = false; taken = 0; body = s }
sign_of_digits signed plus s h = grind (arith, nat_tests, cases_Bool, digit_in_range)

-- Another body that begins with a digit has the same sign.
pub sign_again : (int : IntType) (form : SignForm) (s t : List ℕ) → 0 < run_len decimal_table t
    → sign_in int form (take (sign_in int form s).taken s ++ t)
    ≡ record { minus = (sign_in int form s).minus; taken = (sign_in int form s).taken; body = t }
sign_again int form s t h = grind (arith, nat_tests, sign_of_digits)

-- ---- Calls and their results

pub with_more-zero : (r : Result (ℤ × ℕ) Refusal) → with_more 0 r ≡ r
with_more-zero r = grind arith

pub whole_call-is : (int : IntType) (form : SignForm) (skip : Bool) (s : List ℕ)
    → whole_call int form skip s ≡ whole_answer decimal_table int (sign_in int form s).minus skip (sign_in int form s).body
whole_call-is int form skip s = grind arith

pub prefix_call-is : (int : IntType) (form : SignForm) (skip : Bool) (s : List ℕ)
    → prefix_call int form skip s
    ≡ with_more (sign_in int form s).taken (prefix_answer decimal_table int (sign_in int form s).minus skip (sign_in int form s).body)
prefix_call-is int form skip s = grind (arith, with_more-zero)

abbrev pub counted_number : Bool → ℕ × ℕ → ℤ × ℕ
counted_number minus found = (with_sign minus found.0, found.1)

map_unless_ok : {A B : Type 0} (f : A → B) (r : Option Refusal) (x : A) (y : B)
    → map_answer f (unless_refused r x) ≡ Ok y → (r ≡ None) × (y ≡ f x)
map_unless_ok f r x y h = grind (arith)

pub map_unless_err : {A B : Type 0} (f : A → B) (r : Option Refusal) (x : A) (reason : Refusal)
    → map_answer f (unless_refused r x) ≡ Err reason → r ≡ Some reason
map_unless_err f r x reason h = grind (arith)

map_unless_none : {A B : Type 0} (f : A → B) (r : Option Refusal) (x : A) → r ≡ None → map_answer f (unless_refused r x) ≡ Ok (f x)
map_unless_none f r x h = rw h refl

with_more_ok : (more : ℕ) (r : Result (ℤ × ℕ) Refusal) (v : ℤ) (count : ℕ) → with_more more r ≡ Ok (v, count)
    → (read : ℕ) × (r ≡ Ok (v, read)) × (count ≡ read + more)
with_more_ok more (Ok found) v count h =
    let e : (found.0, found.1 + more) ≡ (v, count) = cc h in
    (found.1, ap (λ x. Ok (x, found.1)) (ap (λ (p : ℤ × ℕ). p.0) e), sym (ap (λ (p : ℤ × ℕ). p.1) e))
with_more_ok more (Err reason) v count h = absurd (cc h)

module _ (int : IntType) (minus skip : Bool) (body : List ℕ) where
  abbrev pub AcceptedAs : Extent → Type 0
  AcceptedAs extent = IsAccepted decimal_table (class_of int) (bound_of int minus) (limit_of int) extent skip body

  abbrev pub signed_value : ℤ
  signed_value = with_sign minus (value decimal_table (run decimal_table body))

  -- The body is all digits, and passes the tests.
  pub record IsWhole (v : ℤ) : Type 0 where
    pub some : 0 < run_len decimal_table body
    pub short : is_above (limit_at (class_of int) whole skip (limit_of int)) (significant_len decimal_table skip body) ≡ false
    pub in_range : value decimal_table (run decimal_table body) ≤ bound_of int minus
    pub all : run_len decimal_table body ≡ length body
    pub number : v ≡ signed_value

  pub from_whole : (v : ℤ) → whole_answer decimal_table int minus skip body ≡ Ok v → IsWhole v
  from_whole v h = search (arith, map_unless_ok, accepted, eqb-true, not-false)

  pub to_whole : (v : ℤ) → IsWhole v → whole_answer decimal_table int minus skip body ≡ Ok v
  to_whole v h = search (arith, map_unless_none, refusal-none, eq-eqb)

-- `Ok` of a prefix: `count` is the run and the sign.
pub record IsFound (int : IntType) (g : Sign) (skip : Bool) (v : ℤ) (count : ℕ) : Type 0 where
  pub is_prefix : AcceptedAs int g.minus skip g.body prefix
  pub number : v ≡ signed_value int g.minus skip g.body
  pub count_is : count ≡ run_len decimal_table g.body + g.taken

pub found_prefix : (int : IntType) (form : SignForm) (skip : Bool) (s : List ℕ) (v : ℤ) (count : ℕ)
    → prefix_call int form skip s ≡ Ok (v, count) → IsFound int (sign_in int form s) skip v count
found_prefix int form skip s v count h = search (arith, prefix_call-is, with_more_ok, map_unless_ok, accepted)

pub ok_prefix : (int : IntType) (form : SignForm) (skip : Bool) (s : List ℕ) (v : ℤ) (count : ℕ)
    → IsFound int (sign_in int form s) skip v count → prefix_call int form skip s ≡ Ok (v, count)
ok_prefix int form skip s v count h = search (arith, prefix_call-is, map_unless_none, refusal-none)

-- ---- Answers to a body, with a bound and a limit

module _ (table : Table) (class : Class) (bound limit : ℕ) (skip : Bool) (s : List ℕ) where
  pub prefix_in_bounds : (number len : ℕ) → Ok (number, len) ≡ prefix_magnitude table class bound limit skip s
      → (number ≤ bound) × (len ≤ length s)
  prefix_in_bounds number len found = search (arith, map_unless_ok, accepted, prefix_len-le-length)

  pub whole_in_bounds : (number : ℕ) → Ok number ≡ whole_magnitude table class bound limit skip s → number ≤ bound
  whole_in_bounds number found = search (arith, map_unless_ok, accepted)
