-- Each number goes after those before it.
use Rattle.std.proofs.Common.{◌≡◌, ◌+◌, ◌-◌, ◌<◌, ◌∷◌, Ok, length, sym, ◌∙◌, arith}
use Rattle.atoi_column.specs.FieldItems.{field_items_left, after_first_field}
use Rattle.atoi_column.proofs.lemmas.Reads.{filled_more}
use Rattle.atoi_column.proofs.fields.Fields.read_part.Goals as goal

pub loop-at-preserved : goal.loop-at-preserved
loop-at-preserved g c =
    let int = g.T.Number.int_type in
    let new = c.if-this-ne0.fields in
    let step : (field_items_left int c.loop-at.fields ≡ Ok (g.T.Number.number c.in-Some.value) ∷ field_items_left int new)
    × (new ≡ after_first_field c.loop-at.fields) =
    elim c.if-this-ne0.branch [
      | goal.then-this-ne0 w ↦ rw w.fields-is (rw (sym w.next-is ∙ c.in-Some.is) at w.guessed_number-next.ensures.some)
      | goal.else-this-ne0 w ↦ rw w.fields-is (rw (sym w.next-is ∙ c.in-Some.is) at w.next_number-next.ensures.some)
    ] in
    let before = c.loop-at.invariant in
    let at = c.loop-at.at in
    let room : at < length c.loop-at.values = omega (arith, c.requires, c.loop-at-test.true, c.loop-at.auto.values, c.min-end.ensures) in
    let here : c.args.from + (at - c.args.from) ≡ at = omega (arith, before.after) in
    let more : c.args.from + (at + 1 - c.args.from) ≡ at + 1 = omega (arith, before.after) in
    record {
      after = omega (arith, before.after);
      within = omega (arith, c.loop-at-test.true);
      fills = λ first initial has. rw more (filled_more g.T.Number.int_type g.T.Number.number first initial
          (rw here at (before.fills first initial has)) room step.0 step.1);
    }
