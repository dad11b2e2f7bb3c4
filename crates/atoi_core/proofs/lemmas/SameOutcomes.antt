-- Bytes after the run, and zeros before it, do not change the outcome.
use Rattle.std.proofs.Common.{◌≡◌, ℕ, ◌+◌, ◌-◌, ◌<◌, Bool, true, if◌then◌else◌, eqb, List, ◌++◌, length, take, replicate, Option, option_map, refl, ap, arith, take_at, drop_at, length-append, ne_eqb, take-add}
use Rattle.std.proofs.lemmas.List.{length-replicate}
use Rattle.std.proofs.lemmas.Bool.Decides.{nat_tests}
use Rattle.atoi_core.specs.Digit.{decimal_table, is_digit}
use Rattle.atoi_core.specs.Run.{run_len, run, zeros, value}
use Rattle.atoi_core.specs.Refusal.{Refusal, rank}
use Rattle.atoi_core.specs.Magnitude.{Extent, whole, prefix, leaves_rest, refusal, unless_refused}
use Rattle.atoi_core.specs.IntType.{IntType, class_of, bound_of, limit_of}
use Rattle.atoi_core.specs.Sign.{Sign, with_sign}
use Rattle.atoi_core.specs.Answer.{map_answer, prefix_answer, with_more}
use Rattle.atoi_core.specs.Laws.{SignForm, sign_in, with_zeros, zero_byte, HaveSameOutcome, RestChangesNothing, ZerosChangeNothing}
use Rattle.atoi_core.proofs.lemmas.Runs.{length-run, zeros-run, value-replicate, prefix_len-replicate_append}
use Rattle.atoi_core.proofs.lemmas.Calls.{sign_again, whole_call-is, prefix_call-is, counted_number, with_more-zero}
use Rattle.atoi_core.proofs.lemmas.Refusals.{refusal-rank, significant_len}

-- Equal numbers and equal ranks make the same outcome.
same_outcome : (minus other_minus : Bool) (r q : Option Refusal) (x y : ℕ) → option_map rank r ≡ option_map rank q
    → with_sign minus x ≡ with_sign other_minus y
    → HaveSameOutcome (map_answer (with_sign minus) (unless_refused r x)) (map_answer (with_sign other_minus) (unless_refused q y))
same_outcome minus other_minus r q x y h e = grind arith

-- The same of prefix answers whose counts differ by `more`.
same_prefix_outcome : (more taken other_taken : ℕ) (minus other_minus : Bool) (r q : Option Refusal) (x y : ℕ × ℕ)
    → option_map rank r ≡ option_map rank q → with_sign minus x.0 ≡ with_sign other_minus y.0 → x.1 + taken + more ≡ y.1 + other_taken
    → HaveSameOutcome (with_more more (with_more taken (map_answer (counted_number minus) (unless_refused r x))))
    (with_more other_taken (map_answer (counted_number other_minus) (unless_refused q y)))
same_prefix_outcome more taken other_taken minus other_minus r q x y h e c = grind arith

abbrev reason_at : IntType → Bool → Extent → Sign → Option Refusal
reason_at int skip extent g = refusal decimal_table (class_of int) (bound_of int g.minus) (limit_of int) extent skip g.body

abbrev len_at : Sign → ℕ
len_at g = run_len decimal_table g.body

abbrev number_at : Sign → ℕ
number_at g = value decimal_table (run decimal_table g.body)

-- Two tests agree and the other two compare equal numbers, so all four agree.
record IsAlike (int : IntType) (skip : Bool) (extent : Extent) (g h : Sign) : Type 0 where
  bound : bound_of int g.minus ≡ bound_of int h.minus
  is_empty : eqb (run_len decimal_table g.body) 0 ≡ eqb (run_len decimal_table h.body) 0
  counts : significant_len decimal_table skip g.body ≡ significant_len decimal_table skip h.body
  number : number_at g ≡ number_at h
  followed : leaves_rest extent (run_len decimal_table g.body) (length g.body)
      ≡ leaves_rest extent (run_len decimal_table h.body) (length h.body)

-- If the four tests agree, the refusals have the same rank.
same_reason : (int : IntType) (skip : Bool) (extent : Extent) (g h : Sign) → IsAlike int skip extent g h
    → option_map rank (reason_at int skip extent g) ≡ option_map rank (reason_at int skip extent h)
same_reason int skip extent g h alike = search (arith, refusal-rank)

pub rest_changes_nothing : (int : IntType) → RestChangesNothing int
rest_changes_nothing int form skip s t same =
    let g = sign_in int form s in
    let h = sign_in int form t in
    let len : len_at g ≡ len_at h = rw (← length-run decimal_table g.body, same.run, length-run decimal_table h.body) refl in
    let leading : zeros decimal_table g.body ≡ zeros decimal_table h.body =
    rw (← zeros-run decimal_table g.body, same.run, zeros-run decimal_table h.body) refl in
    let number : number_at g ≡ number_at h = ap (value decimal_table) same.run in
    let alike : IsAlike int skip prefix g h =
    record {
      bound = ap (bound_of int) same.minus;
      is_empty = ap (λ (n : ℕ). eqb n 0) len;
      counts = λ i. len i - (if skip then leading i else 0);
      number = number;
      followed = refl;
    } in
    rw (
      prefix_call-is int form skip s,
      prefix_call-is int form skip t,
      ← with_more-zero (with_more g.taken (prefix_answer decimal_table int g.minus skip g.body)),
    )
    (same_prefix_outcome 0 g.taken h.taken g.minus h.minus (reason_at int skip prefix g) (reason_at int skip prefix h)
    (number_at g, len_at g) (number_at h, len_at h) (same_reason int skip prefix g h alike)
    (λ i. with_sign (same.minus i) (number i)) (omega (arith, same.taken)))

-- ---- Added leading zeros

abbrev padded : ℕ → List ℕ → List ℕ
padded count body = replicate count zero_byte ++ body

length-padded : (count : ℕ) (body : List ℕ) → length (padded count body) ≡ count + length body
length-padded count body = simp (length-append, length-replicate)

take-padded : (count n : ℕ) (body : List ℕ) → take (count + n) (padded count body) ≡ padded count (take n body)
take-padded count n body = search (arith, length-replicate, take-add, take_at, drop_at)

value-padded : (count : ℕ) (body : List ℕ)
    → value decimal_table (run decimal_table body) ≡ value decimal_table (run decimal_table (padded count body))
value-padded count body = search (arith, value-replicate, take-padded, prefix_len-replicate_append)

-- Another byte follows the digits in both bodies or in neither.
followed-padded : (extent : Extent) (count : ℕ) (body : List ℕ)
    → leaves_rest extent (run_len decimal_table body) (length body)
    ≡ leaves_rest extent (run_len decimal_table (padded count body)) (length (padded count body))
followed-padded extent count body =
    rw (prefix_len-replicate_append (is_digit decimal_table) zero_byte refl count body, length-padded count body) (grind (arith, nat_tests))

-- With zeros skipped, the four tests agree after zeros are added.
padded_alike : (int : IntType) (extent : Extent) (count : ℕ) (g : Sign) → 0 < run_len decimal_table g.body
    → IsAlike int true extent g (record g { body = padded count g.body })
padded_alike int extent count g some = search (arith, prefix_len-replicate_append, value-padded, followed-padded, ne_eqb)

-- Zeros after the sign do not change the sign that is consumed.
sign_of_padded : (int : IntType) (form : SignForm) (s : List ℕ) (count : ℕ) → 0 < run_len decimal_table (sign_in int form s).body
    → sign_in int form (with_zeros int form count s)
    ≡ record { minus = (sign_in int form s).minus; taken = (sign_in int form s).taken; body = padded count (sign_in int form s).body }
sign_of_padded int form s count some = search (arith, prefix_len-replicate_append, sign_again)

pub zeros_change_nothing : (int : IntType) → ZerosChangeNothing int
zeros_change_nothing int = record {
  whole = λ form s count some.
      let g = sign_in int form s in
      let h : Sign = record g { body = padded count g.body } in
      rw (whole_call-is int form true s, whole_call-is int form true (with_zeros int form count s), sign_of_padded int form s count some)
      (same_outcome g.minus g.minus (reason_at int true whole g) (reason_at int true whole h) (number_at g) (number_at h)
      (same_reason int true whole g h (padded_alike int whole count g some)) (ap (with_sign g.minus) (value-padded count g.body)));
  prefix = λ form s count some.
      let g = sign_in int form s in
      let h : Sign = record g { body = padded count g.body } in
      let more = prefix_len-replicate_append (is_digit decimal_table) zero_byte refl count g.body in
      rw (prefix_call-is int form true s, prefix_call-is int form true (with_zeros int form count s), sign_of_padded int form s count some)
      (same_prefix_outcome count g.taken g.taken g.minus g.minus (reason_at int true prefix g) (reason_at int true prefix h)
      (number_at g, len_at g) (number_at h, len_at h) (same_reason int true prefix g h (padded_alike int prefix count g some))
      (ap (with_sign g.minus) (value-padded count g.body)) (omega arith));
}
