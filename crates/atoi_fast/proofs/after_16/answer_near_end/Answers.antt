-- A slice that ends with the run decides, up to the limit.
use Rattle.std.proofs.Common.{◌≡◌, ℕ, ◌+◌, ◌-◌, List, length, take, drop, sym, ◌∙◌, ap, arith, ne_eqb, le-ltb, zero-add, length-drop, take_all}
use Rattle.std.proofs.lemmas.List.Sums.{prefix_len-le-length}
use Rattle.atoi_core.specs.Digit.{decimal_table, is_digit}
use Rattle.atoi_core.specs.Run.{run_len, value}
use Rattle.atoi_core.proofs.lemmas.Runs.{value-take-add}
use Rattle.atoi_fast.proofs.lemmas.After16.{by_digits, ended_at_16}
use Rattle.atoi_fast.proofs.after_16.answer_near_end.Goals as goal

pub returns-then-s-eq16 : goal.returns-then-s-eq16
returns-then-s-eq16 c =
    let s : List ℕ = c.args.s.now in
    let r = c.requires in
    let all : run_len decimal_table s ≡ 16 = omega (arith, prefix_len-le-length (is_digit decimal_table) s) in
    ended_at_16 c.args.bound c.args.limit s _ r.bound.low r.bound.high r.bound.digits all r.number

pub returns-in-Some : goal.returns-in-Some
returns-in-Some c =
    let s : List ℕ = c.args.s.now in
    let more : ℕ = length s - 16 in
    let rest : value decimal_table (take more (drop 16 s)) ≡ value decimal_table (drop 16 s) =
    ap (value decimal_table) (take_all more (drop 16 s) (omega (arith, length-drop 16 s))) in
    let len : 16 + more ≡ length s = omega (arith, c.requires.full, prefix_len-le-length (is_digit decimal_table) s) in
    let number : c.append_digits-number.result ≡ value decimal_table (take (length s) s) =
    c.append_digits-number.ensures
    ∙ rw (c.requires.number, c.from.ensures ∙ c.in-Some.ensures.1, ← rest)
    (sym (value-take-add decimal_table 16 more s (omega arith)) ∙ ap (λ n. value decimal_table (take n s)) len) in
    let known = by_digits c.args.bound c.args.limit s (length s) _ c.requires.bound.high (omega (arith, c.in-Some.ensures.0)) number in
    c.within_bound.ensures
    ∙ (rw (zero-add (length s), ne_eqb (length s) 0 (omega arith), le-ltb c.args.limit (length s) c.requires.few) at known.2)
