-- Both words are all digits, with a zero for the minus.
use Rattle.std.proofs.Common.{◌≡◌, ◌∙◌, nat_eq, get_or, ◌&&◌, refl, sym, if◌then◌else◌, arith}
use Rattle.std.proofs.lemmas.Bool.Decides.{nat_tests}
use Rattle.atoi_fast.proofs.lemmas.ShortNumbers.{if_in_range}
use Rattle.atoi_fast.proofs.lemmas.TwoWordSlices.{two_words_whole}
use Rattle.atoi_fast.proofs.short_slice.slice_of_two_words.Goals as goal

pub returns : goal.returns
returns g c =
    let minus = c.SIGNED.result && nat_eq (get_or c.args.s.now 0 0) 45 in
    let int = g.T.Number.int_type in
    let back : c.from.result ≡ (if minus then 1 else 0) = grind (arith, nat_tests, c.from.ensures) in
    if_in_range g.T.Number.number int c.args.s.now minus _ c.number_in_range.result
    c.number_in_range.ensures.in_range c.number_in_range.ensures.number
    (two_words_whole minus c.args.s.now c.requires.enough c.requires.few (λ i. (c.type_inv.s i).fits) (λ e. grind (arith, nat_tests))
    c.load_full-word.result c.from.result _ c.load_last-last.result c.load_full-word.ensures back refl c.load_last-last.ensures
    c.load_full-word.type_inv (sym c.leading_digits.ensures.len ∙ c.if-leading_digits-ne8.false)
    (sym c.leading_digits-else-leading_digits-ne8.ensures.len ∙ c.if-leading_digits-ne8-2.false) int c.value_of-high.result
    c.value_of.result _ (λ e. g.met.T.Number.type_is.sign_is ∙ grind (arith, nat_tests, c.SIGNED.ensures))
    c.value_of-high.ensures.sum c.value_of.ensures.sum
    (rw c.power_of_ten.ensures.power refl))
