-- The parts join to the filled word.
use Rattle.std.proofs.Common.{arith}
use Rattle.atoi_core.specs.Words.{word_of}
use Rattle.atoi_fast.proofs.lemmas.LoadedWords.{flipped_joined}
use Rattle.atoi_fast.proofs.loads.load_flipped.Goals as goal

pub returns : goal.returns
unfolding word_of
returns c =
    let s = c.args.s.now in
    let first = c.load_four_from.result in
    let last = c.load_last_four.result in
    let first_is = c.load_four_from.ensures in
    let last_is = c.load_last_four.ensures in
    let joined =
    flipped_joined s c.requires.few (λ i. (c.type_inv.s i).fits) first last c.load_last_two.result c.requires.some in
    rw (c.from-2.ensures, c.from.ensures, c.from-3.ensures, c.factor_of.ensures)
    (elim c.if-s-lt4.branch [
      | goal.then-s-lt4 w ↦
          joined (λ four. absurd (omega (arith, w.if-s-lt4.true))) (λ few. rw w.fours-is at first_is)
          (λ four. absurd (omega (arith, w.if-s-lt4.true))) (λ few. rw w.fours-is at last_is) c.load_last_two.ensures
      | goal.else-s-lt4 w ↦
          joined (λ four. rw w.fours-is at first_is) (λ few. absurd (omega (arith, w.if-s-lt4.false)))
          (λ four. rw w.fours-is at last_is) (λ few. absurd (omega (arith, w.if-s-lt4.false))) c.load_last_two.ensures
    ])
