-- The digits of the first word are the number.
use Rattle.std.proofs.Common.{◌∙◌, refl, arith}
use Rattle.atoi_fast.proofs.lemmas.SignedWords.{lowered_at_top}
use Rattle.atoi_fast.proofs.lemmas.ShortPrefixes.{unsigned_word_prefix}
use Rattle.atoi_fast.proofs.short_prefix.prefix_in_word.Goals as goal

pub value_by_product-magnitude-requires-clause-halves : goal.value_by_product-magnitude-requires-clause-halves
value_by_product-magnitude-requires-clause-halves g c =
    (lowered_at_top c.args.len c.args.word _ (omega arith) (omega (arith, c.requires.len)) refl).0

pub returns-clause-answer : goal.returns-clause-answer
returns-clause-answer g c =
    let r = c.requires in
    let number_is = c.value_by_product-magnitude.ensures.sum
    ∙ (lowered_at_top c.args.len c.args.word _ (omega arith) (omega (arith, r.len)) refl).1 in
    rw c.in_ok-number.ensures.number
    (unsigned_word_prefix g.T.Number.int_type c.args.s.now (omega arith) (λ i. (c.type_inv.s i).fits) c.args.word c.args.len _ r.word
    r.len (omega arith) (omega arith) number_is c.in_ok-number.ensures.in_range)
