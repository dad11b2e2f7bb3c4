-- The second piece starts where the first ended.
use Rattle.std.proofs.Common.{◌≡◌, ◌≤◌, length, refl, sym, ap, ◌∙◌, arith}
use Rattle.atoi_core.specs.IntType.{u32_type}
use Rattle.atoi_column.specs.FieldItems.{lines_in, field_items_left}
use Rattle.atoi_column.specs.Laws.{end_of}
use Rattle.atoi_uses.specs.BadLines.{first_bad_index}
use Rattle.atoi_uses.proofs.bad_lines.first_bad_line.Goals as goal
use Rattle.atoi_uses.proofs.bad_lines.first_bad_line.Goals.{After-lines}

pub loop-item-init : goal.loop-item-init
loop-item-init c =
    let cut = c.pieces_in_turn.ensures.cut (lines_in c.args.first.now) c.args.second.now c.requires in
    record {
      end = ap (end_of u32_type) c.lines-lines.ensures.left;
      found = rw c.lines-lines.ensures.left (ap first_bad_index cut);
    }

pub returns-in-Err : goal.returns-in-Err
returns-in-Err c =
    sym (c.loop-item.invariant.found ∙ rw (c.in-Some.ensures.steps.0, c.in-Err.is) refl)

pub loop-item-preserved : goal.loop-item-preserved
loop-item-preserved c = record {
  end = c.pieces_in_turn.ensures.step c.loop-item.lines c.next.new.self _ c.in-Some.ensures.steps.0 c.in-Some.ensures.steps.1
      ∙ c.loop-item.invariant.end;
  found = c.loop-item.invariant.found ∙ rw (c.in-Some.ensures.steps.0, c.in_default-item.is) refl;
}

-- After the first loop, the iterator is at the end of the first piece.
at_end : (c : After-lines) → c.next.new.self ≡ end_of u32_type (lines_in c.args.first.now)
at_end c =
    let steps = c.in_default.ensures.steps.1 in
    steps.1 ∙ (sym (c.pieces_in_turn.ensures.end c.loop-item.lines steps.0) ∙ c.loop-item.invariant.end)

index_is : (c : After-lines) → c.position-index.result.0 ≡ (end_of u32_type (lines_in c.args.first.now)).index
index_is c = ap (λ position. position.0) c.position-index.ensures ∙ ap (λ left. left.index) (at_end c)

place_is : (c : After-lines) → c.position-index.result.1 ≡ (end_of u32_type (lines_in c.args.first.now)).place
place_is c = ap (λ position. position.1) c.position-index.ensures ∙ ap (λ left. left.place) (at_end c)

pub starting_at-item-items-requires : goal.starting_at-item-items-requires
starting_at-item-items-requires c =
    let few : length (field_items_left u32_type (lines_in c.args.first.now)) ≤ length c.args.first.now =
    rw c.lines-lines.ensures.left at c.lines-lines.ensures.fits in
    let rest : length c.lines.result.rest ≡ length c.args.second.now = ap (λ left. length left.rest) c.lines.ensures.left in
    (omega (arith, index_is c), omega (arith, place_is c))

pub loop-item-2-init : goal.loop-item-2-init
loop-item-2-init c =
    let at = (goal.at.loop-item-2-init c).After-lines in
    let second : c.into_iter-item-iterator.result ≡ record (end_of u32_type (lines_in c.args.first.now)) { rest = c.args.second.now } =
    c.into_iter-item-iterator.ensures.into_iter_gives
    ∙ (c.starting_at-item-items.ensures ∙ rw (c.lines.ensures.left, index_is at, place_is at) refl) in
    c.loop-item.invariant.found ∙ rw (c.in_default.ensures.steps.0.0, second) refl
