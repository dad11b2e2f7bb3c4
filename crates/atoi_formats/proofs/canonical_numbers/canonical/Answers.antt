-- A text is accepted exactly if it is what `{}` prints.
use Rattle.std.proofs.Common.{refl, sym, ◌∙◌}
use Rattle.std.proofs.lemmas.Bool.{both_ways}
use Rattle.atoi_core.specs.Laws.{looked_for}
use Rattle.atoi_formats.specs.Formats.{IsCanonical}
use Rattle.atoi_formats.proofs.lemmas.Outcomes.{accepted, refused}
use Rattle.atoi_formats.proofs.lemmas.Canonical.{shortest, written, printed}
use Rattle.atoi_formats.proofs.canonical_numbers.canonical.Goals as goal

pub returns-in_err-number-clause-none : goal.returns-in_err-number-clause-none
unfolding IsCanonical
returns-in_err-number-clause-none g c =
    rw c.from_residual.ensures
    (λ number is. (refused c.parse.result (sym c.ok.ensures.value ∙ c.in_err-number.was)
    (c.parse.ensures.refused refl)) number (written c.decimal_texts.ensures is))

pub returns-then-has_needless_byte-clause-none : goal.returns-then-has_needless_byte-clause-none
unfolding IsCanonical
returns-then-has_needless_byte-clause-none g c = λ number is.
    both_ways _ (shortest c.decimal_texts.ensures is) (sym c.has_needless_byte.ensures ∙ c.if-has_needless_byte.true)

pub returns-else-has_needless_byte-clause-some : goal.returns-else-has_needless_byte-clause-some
unfolding IsCanonical
returns-else-has_needless_byte-clause-some g c =
    printed c.decimal_texts.ensures
    (accepted _ c.parse.result (sym c.ok.ensures.value ∙ c.in_ok-number.was) c.parse.ensures.number)
    (sym c.has_needless_byte.ensures ∙ c.if-has_needless_byte.false)

pub returns-else-has_needless_byte-clause-only : goal.returns-else-has_needless_byte-clause-only
unfolding IsCanonical
returns-else-has_needless_byte-clause-only g c = λ number is.
    c.one_number.ensures (looked_for _) _ _ _ (written c.decimal_texts.ensures is)
    (accepted _ c.parse.result (sym c.ok.ensures.value ∙ c.in_ok-number.was) c.parse.ensures.number)
