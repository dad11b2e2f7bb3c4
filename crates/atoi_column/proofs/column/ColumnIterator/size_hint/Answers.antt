-- A byte that is left belongs to a field, and each field has one.
use Rattle.std.proofs.Common.{◌≡◌, Bool, true, false, inl, inr, if◌then◌else◌, Some, [], length, min, sym, ap, ◌∙◌, arith}
use Rattle.std.proofs.lemmas.Bool.Decides.{leb_tells}
use Rattle.atoi_column.proofs.lemmas.Items.{length-items_left, some-items_left}
use Rattle.atoi_column.proofs.column.ColumnIterator.size_hint.Goals as goal
use Rattle.atoi_column.proofs.column.ColumnIterator.size_hint.Goals.{After-min}

-- The bytes left are those of the value.
bytes : (g : _) (c : After-min g) → c.if-self.left ≡ length c.args.self.now.rest
bytes g c =
    let inside = c.self.inside in
    let view : (b : Bool) → inside.has_ended ≡ b → length c.args.self.now.rest ≡ length (if b then [] else inside.rest.now) =
    λ b e. ap (λ left. length left.rest) (sym c.self.view_is) ∙ ap (λ ended. length (if ended then [] else inside.rest.now)) e in
    elim c.if-self.branch [
      | goal.then-self w ↦ omega (arith, view true w.if-self.true, w.left-is)
      | goal.else-self w ↦ omega (arith, view false w.if-self.false, w.left-is)
    ]

pub returns : goal.returns
returns g c =
    let left = c.args.self.now in
    let some = some-items_left g.T.Number.int_type left.separator left.index left.place left.rest in
    let most = length-items_left g.T.Number.int_type left.separator left.index left.place left.rest in
    record {
      lower = λ _. grind (arith, c.min.ensures, bytes g c, some);
      upper = (tt, omega (arith, bytes g c, most));
      exact = ap (λ least. (least, Some c.if-self.left)) c.min.ensures ∙ ap (λ left. (min left 1, Some left)) (bytes g c);
    }
