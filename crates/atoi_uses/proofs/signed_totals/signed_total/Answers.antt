-- The invariant holds at the start, and after each number.
use Rattle.std.proofs.Common.{◌≡◌, ◌^◌, ◌<◌, ◌≤◌, [], ◌∷◌, ◌++◌, length, length-append, ℤ, pos, ◌+ℤ◌, FitsSigned, to_z, of_z, w64, Ok, refl, sym, ap, ◌∙◌, arith, rules}
use Rattle.std.specs.Int.{w128}
use Rattle.std.proofs.lemmas.Int.{ints}
use Rattle.std.proofs.lemmas.List.Sums.{fold-append}
use Rattle.atoi_core.specs.IntType.{i64_type}
use Rattle.atoi_column.specs.Items.{column_items, item_of, items_of}
use Rattle.atoi_uses.proofs.signed_totals.signed_total.Goals as goal

pub loop-item-init : goal.loop-item-init
loop-item-init c = record {
  numbers = [];
  read = search rules;
  sum = refl;
  above = omega (arith, ints);
  below = omega (arith, ints);
}

pub overflow_add-total : goal.overflow_add-total
overflow_add-total c =
    let fits : FitsSigned w64 c.in-Ok.number = search rules in
    let value : c.from-total.result ≡ c.in-Ok.number = search rules in
    let items = items_of i64_type c.args.separator c.args.input.now in
    let before = c.loop-item.invariant in
    let bytes : length items ≤ length c.args.input.now = search rules in
    let few : length c.args.input.now < 2 ^ 64 = search rules in
    omega (arith, ints, before.above, before.below, before.read.count)

pub loop-item-preserved : goal.loop-item-preserved
loop-item-preserved c =
    let number : ℤ = c.in-Ok.number in
    let total : ℤ = to_z w128 c.loop-item.total-bits in
    let fits : FitsSigned w64 number = search rules in
    let value : c.from-total.result ≡ number = search rules in
    let items = items_of i64_type c.args.separator c.args.input.now in
    let before = c.loop-item.invariant in
    let old = column_items i64_type c.loop-item.item-iterator in
    let left = column_items i64_type c.next.new.self in
    let step : old ≡ Ok number ∷ left =
    c.in-Some.ensures.steps.0 ∙ ap (λ item. item_of (λ n. n) item ∷ left) c.in-Ok.is in
    let read = c.items_in_turn.ensures.more_values items old left before.numbers (number ∷ []) before.read step in
    let bytes : length items ≤ length c.args.input.now = search rules in
    let few : length c.args.input.now < 2 ^ 64 = search rules in
    let more = length-append before.numbers (number ∷ []) in
    let sum : to_z w128 (of_z w128 (total +ℤ to_z w128 (of_z w128 c.from-total.result))) ≡ total +ℤ number =
    omega (arith, ints, before.above, before.below, read.count, more) in
    rw sum (record {
      numbers = before.numbers ++ number ∷ [];
      read = read;
      sum = ap (λ t. t +ℤ number) before.sum ∙ sym (fold-append ◌+ℤ◌ (pos 0) before.numbers (number ∷ []));
      above = omega (arith, ints, before.above, more);
      below = omega (arith, ints, before.below, more);
    })
