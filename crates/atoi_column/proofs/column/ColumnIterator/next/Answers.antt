-- `next` gives the first item left, and leaves the others.
use Rattle.std.proofs.Common.{◌≡◌, ◌==◌, ℕ, List, Bool, true, false, if◌then◌else◌, [], ◌∷◌, length, refl, sym, ap, ◌∙◌, arith}
use Rattle.std.specs.List.{after_first}
use Rattle.std.proofs.lemmas.List.{nil_from_length, take_rest}
use Rattle.std.proofs.lemmas.Bool.Decides.{nat_tests}
use Rattle.atoi_core.specs.Refusal.{refusal_of}
use Rattle.atoi_column.specs.Items.{ColumnLeft, column_items, items_left}
use Rattle.atoi_column.proofs.lemmas.Items.{items_left-empty, items_left-ended, items_left-last, items_left-trailing, items_left-refused, rest-ended, rest-last, FieldBegins, one_item_less}
use Rattle.atoi_column.proofs.column.ColumnIterator.next.Goals as goal
use Rattle.atoi_column.proofs.column.ColumnIterator.next.Goals.{After-parse_prefix}

-- The parse reads a field.
field_begins : (g : _) (c : After-parse_prefix g)
    → FieldBegins g.T.Number.int_type c.self.inside.separator c.self.inside.index c.self.inside.place c.self.inside.rest.now
field_begins g c = record {
  some = grind (arith, nat_tests);
  law = c.results_tell_fields.ensures c.self.inside.separator c.self.invariant.separates c.self.inside.rest.now
      c.parse_prefix.result c.parse_prefix.ensures.answer c.parse_prefix.ensures.prefix (c.parse_prefix.ensures.refused refl);
}

abbrev column_left : (separator index place : ℕ) → List ℕ → ColumnLeft
column_left separator index place rest = record { separator = separator; index = index; place = place; rest = rest }

-- What is left before the call, if the column has not ended.
old_is : (g : _) (c : After-parse_prefix g)
    → c.args.self.now ≡ column_left c.self.inside.separator c.self.inside.index c.self.inside.place c.self.inside.rest.now
old_is g c =
    let inside = c.self.inside in
    sym c.self.view_is
    ∙ ap (λ ended. column_left inside.separator inside.index inside.place (if ended then [] else inside.rest.now)) c.if-self.false

left_is : (g : _) (c : After-parse_prefix g)
    → column_items g.T.Number.int_type c.args.self.now
    ≡ items_left g.T.Number.int_type c.self.inside.separator c.self.inside.index c.self.inside.place c.self.inside.rest.now
left_is g c = ap (column_items g.T.Number.int_type) (old_is g c)

after_is : (g : _) (c : After-parse_prefix g)
    → after_first (λ byte. byte == c.self.inside.separator) c.self.inside.rest.now
    ≡ after_first (λ byte. byte == c.args.self.now.separator) c.args.self.now.rest
after_is g c = ap (λ left. after_first (λ byte. byte == left.separator) left.rest) (sym (old_is g c))

pub returns-then-self-clause-steps : goal.returns-then-self-clause-steps
returns-then-self-clause-steps g c =
    let inside = c.self.inside in
    let view : (b : Bool) → inside.has_ended ≡ b → c.args.self.now.rest ≡ (if b then [] else inside.rest.now) =
    λ b e. ap (λ left. left.rest) (sym c.self.view_is) ∙ ap (λ x. if x then [] else inside.rest.now) e in
    let end : c.args.self.now.rest ≡ [] =
    elim c.then-self.branch [
      | goal.then-self-via-then-self w ↦ view true w.if-self.true
      | goal.then-self-via-else-self+then-is_empty w ↦
          view false w.if-self.false ∙ nil_from_length inside.rest.now (grind (arith, nat_tests))
    ] in
    let left = c.args.self.now in
    let items = items_left-empty g.T.Number.int_type left.separator left.index left.place left.rest (ap length end) in
    ((items, items), (end, refl))

pub returns-in-None : goal.returns-in-None
returns-in-None g c =
    let rest = c.self.inside.rest.now in
    let at = (goal.at.returns-in-None g c).After-parse_prefix in
    let begins = field_begins g at in
    let number = g.T.Number.number c.in-Ok.found.0 in
    let answer = sym c.in-Ok.ensures.answer in
    let none = ap length (sym (take_rest rest c.in-Ok.found.1)) ∙ c.in-None.ensures.cases in
    let items = left_is g at ∙ items_left-last begins number c.in-Ok.found.1 answer none in
    record {
      steps = (items, rest-last begins number c.in-Ok.found.1 answer none ∙ after_is g at);
      goes = one_item_less (column_items g.T.Number.int_type) _ (λ _. tt) _ items;
    }

pub returns-in-Some : goal.returns-in-Some
returns-in-Some g c =
    let rest = c.self.inside.rest.now in
    let at = (goal.at.returns-in-Some g c).After-parse_prefix in
    let begins = field_begins g at in
    let found = c.in-Ok.found in
    let following = c.in-Some.following.now in
    let number = g.T.Number.number found.0 in
    let answer = sym c.in-Ok.ensures.answer in
    let cut = rw (take_rest rest found.1) at c.in-Some.ensures.cases.0 in
    let ended = cut ∙ ap (λ byte. byte ∷ following) c.if-byte-self.true in
    let items = left_is g at ∙ items_left-ended begins number found.1 following answer ended in
    record {
      steps = (items, rest-ended begins number found.1 following answer ended ∙ after_is g at);
      goes = one_item_less (column_items g.T.Number.int_type) _ (λ _. tt) _ items;
    }

pub returns-in-Some-2 : goal.returns-in-Some-2
returns-in-Some-2 g c =
    let rest = c.self.inside.rest.now in
    let at = (goal.at.returns-in-Some-2 g c).After-parse_prefix in
    let begins = field_begins g at in
    let found = c.in-Ok.found in
    let cut = rw (take_rest rest found.1) at c.in-Some.ensures.cases.0 in
    let items = left_is g at ∙ items_left-trailing begins (g.T.Number.number found.0) found.1 c.in-Some.byte.now
    c.in-Some.following.now (sym c.in-Ok.ensures.answer) cut c.if-byte-self.false in
    record { steps = (items, refl); goes = one_item_less (column_items g.T.Number.int_type) _ (λ _. tt) _ items }

pub returns-in-Err : goal.returns-in-Err
returns-in-Err g c =
    let at = (goal.at.returns-in-Err g c).After-parse_prefix in
    let items = left_is g at ∙ items_left-refused (field_begins g at) (refusal_of c.in-Err.cause) (sym c.in-Err.ensures.answer) in
    record { steps = (items, refl); goes = one_item_less (column_items g.T.Number.int_type) _ (λ _. tt) _ items }
