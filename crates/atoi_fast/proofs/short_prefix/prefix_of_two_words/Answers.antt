-- The digits of the second word follow those of the first.
use Rattle.std.proofs.Common.{◌∙◌, refl, arith}
use Rattle.std.proofs.lemmas.List.{take_rest}
use Rattle.std.proofs.lemmas.Nat.{mul-le}
use Rattle.atoi_fast.proofs.lemmas.SignedWords.{lowered_at_top}
use Rattle.atoi_fast.proofs.lemmas.ShortNumbers.{sixteen_fit}
use Rattle.atoi_fast.proofs.lemmas.ShortPrefixes.{full_word, next_word_prefix}
use Rattle.atoi_fast.proofs.short_prefix.prefix_of_two_words.Goals as goal

pub value_by_product-low-requires-clause-halves : goal.value_by_product-low-requires-clause-halves
value_by_product-low-requires-clause-halves g c =
    (lowered_at_top c.leading_digits-more.result c.load_full-next.result _ (omega arith) (omega arith) refl).0

pub number_in_range-requires-clause-most : goal.number_in_range-requires-clause-most
number_in_range-requires-clause-most g c =
    omega (arith, mul-le c.args.high c.power_of_ten.result 166666665 100000000 (omega arith) (omega arith))

pub returns-clause-answer : goal.returns-clause-answer
returns-clause-answer g c =
    let r = c.requires in
    let int = g.T.Number.int_type in
    let more = c.leading_digits-more.result in
    let next = c.load_full-next.result in
    let low_is = c.value_by_product-low.ensures.sum ∙ (lowered_at_top more next _ (omega arith) (omega arith) refl).1 in
    let in_range = rw c.power_of_ten.ensures.power at c.in_ok-number.ensures.in_range in
    let at_8 = next_word_prefix c.args.minus c.args.s.now 8 (omega arith) (λ i. (c.type_inv.s i).fits) r.full next
    (rw take_rest at c.load_full-next.ensures) int (λ e. (g.met.T.Number.type_is.sign_is ∙ (r.minus e).0, (r.minus e).1)) (omega arith) in
    rw (c.in_ok-number.ensures.number, c.power_of_ten.ensures.power, c.leading_digits-more.ensures.len)
    (at_8 c.args.high _ r.high (omega arith) (omega (arith, sixteen_fit int)) (rw c.leading_digits-more.ensures.len at low_is)
    (rw c.leading_digits-more.ensures.len at in_range))

pub prefix_of_three_words-requires-clause-full : goal.prefix_of_three_words-requires-clause-full
prefix_of_three_words-requires-clause-full g c =
    full_word c.args.minus c.args.s.now 8 (omega arith) (λ i. (c.type_inv.s i).fits) c.requires.full c.load_full-next.result
    (rw take_rest at c.load_full-next.ensures) (omega arith)

pub prefix_of_three_words-requires-clause-second : goal.prefix_of_three_words-requires-clause-second
prefix_of_three_words-requires-clause-second g c = rw take_rest at c.load_full-next.ensures
