-- Errors: their order, and their slices.
use Rattle.std.proofs.Common.{arith, ◌≡◌, refl, ℕ, ◌+◌, Bool, List, take, drop, Some, Result, Err, ℤ, sym, ap, ◌∙◌, take-append-drop, drop-drop, Ordering, Equal}
use Rattle.std.specs.Ordering.{nat_cmp, ordering_then}
use Rattle.std.specs.Cmp.Lexicographic.{slice_cmp}
use Rattle.std.specs.Cmp.{IsTotalOrder}
use Rattle.std.proofs.lemmas.Cmp.{nat_cmp_total, nat_list_cmp_total, on_total, then_total, tied_itself}
use Rattle.std.proofs.lemmas.Map.Lookups.{exact_bytes}
use Rattle.atoi_core.specs.Refusal.{Refusal, rank, numbers, input_of, refusal_cmp}
use Rattle.atoi_core.specs.Digit.{decimal_table}
use Rattle.atoi_core.specs.Magnitude.{whole, prefix, Extent}
use Rattle.atoi_core.specs.IntType.{IntType, class_of, bound_of, limit_of}
use Rattle.atoi_core.specs.Answer.{with_more}
use Rattle.atoi_core.specs.Laws.{SignForm, sign_in, prefix_call, IsSuffix, OrderAndSuffix}
use Rattle.atoi_core.proofs.lemmas.Calls.{drop-taken, map_unless_err, whole_call-is, prefix_call-is}
use Rattle.atoi_core.proofs.lemmas.Refusals.{refused, refusal-input}

-- ---- The order of errors

then_both : (first rest : Ordering) → ordering_then first rest ≡ Equal → (first ≡ Equal) × (rest ≡ Equal)
then_both first rest equal = grind arith

refusal_cmp-total : IsTotalOrder refusal_cmp
refusal_cmp-total =
    then_total (on_total rank nat_cmp_total)
    (then_total (on_total numbers nat_list_cmp_total) (on_total input_of nat_list_cmp_total))

same-refusal_cmp : (a b : Refusal) → refusal_cmp a b ≡ Equal → a ≡ b
same-refusal_cmp a b equal =
    let e = then_both (slice_cmp nat_cmp (numbers a) (numbers b)) _ (then_both (nat_cmp (rank a) (rank b)) _ equal).1 in
    grind (arith, exact_bytes (numbers a) (numbers b) e.0, exact_bytes (input_of a) (input_of b) e.1)

-- ---- Slices in errors

with_more_err : (more : ℕ) (r : Result (ℤ × ℕ) Refusal) (reason : Refusal) → with_more more r ≡ Err reason → r ≡ Err reason
with_more_err more r reason h = grind arith

module _ (int : IntType) (form : SignForm) (skip : Bool) (s : List ℕ) (reason : Refusal) where
  abbrev Refuses : Extent → Type 0
  Refuses extent = refused decimal_table int (sign_in int form s).minus extent skip (sign_in int form s).body ≡ Some reason

  pub prefix_refused : prefix_call int form skip s ≡ Err reason → Refuses prefix
  prefix_refused h = search (arith, prefix_call-is, map_unless_err, with_more_err)

  -- A suffix of the body is a suffix of the slice.
  suffix_in : (extent : Extent) → Refuses extent → IsSuffix (input_of reason) s
  suffix_in extent h =
      let g = sign_in int form s in
      let end = refusal-input decimal_table (class_of int) (bound_of int g.minus) (limit_of int) extent skip g.body reason h in
      let rest : input_of reason ≡ drop (g.taken + end.0) s =
      end.1 ∙ ap (drop end.0) (sym (drop-taken int form s)) ∙ drop-drop end.0 g.taken s in
      (take (g.taken + end.0) s, rw (rest, take-append-drop (g.taken + end.0) s) refl)

pub order_and_suffix : (int : IntType) → OrderAndSuffix int
order_and_suffix int = record {
  order = λ a b. (same-refusal_cmp a b, λ same. rw (← same) (tied_itself refusal_cmp-total a));
  whole = λ form skip s reason h. suffix_in int form skip s reason whole (search (arith, whole_call-is, map_unless_err));
  prefix = λ form skip s reason h. suffix_in int form skip s reason prefix (prefix_refused int form skip s reason h);
}
