-- The clauses name the prefix that writes a number, and the byte after it.
use Rattle.std.proofs.Common.{refl, sym, ◌∙◌, rules}
use Rattle.atoi_core.specs.Laws.{positive}
use Rattle.atoi_formats.proofs.lemmas.Outcomes.{accepted, refused}
use Rattle.atoi_formats.proofs.lemmas.Then.{has_prefix, only_prefix}
use Rattle.atoi_formats.proofs.numbers_then.digits_then.Goals as goal

pub returns-in_err-number-clause-none : goal.returns-in_err-number-clause-none
returns-in_err-number-clause-none g c = rw c.from_residual.ensures (λ number digits rest written parts.
    let found = has_prefix c.number_then_byte.ensures positive c.args.byte c.requires digits rest written parts in
    (refused c.parse_prefix_pos.result (sym c.ok.ensures.value ∙ c.in_err-number.was)
    (c.parse_prefix_pos.ensures.refused refl)) number found.0 found.1)

pub returns-in_err-strip_byte-clause-none : goal.returns-in_err-strip_byte-clause-none
returns-in_err-strip_byte-clause-none g c = rw c.from_residual-in_err-strip_byte.ensures (λ number digits rest written parts.
    let same = only_prefix c.number_then_byte.ensures positive c.args.byte
    c.requires digits rest written parts
    (accepted _ c.parse_prefix_pos.result (sym c.ok.ensures.value ∙ c.in_ok-number.was) c.parse_prefix_pos.ensures.prefix) in search rules)

pub returns-clause-only : goal.returns-clause-only
returns-clause-only g c = λ number digits rest written parts.
    let same = only_prefix c.number_then_byte.ensures positive c.args.byte
    c.requires digits rest written parts
    (accepted _ c.parse_prefix_pos.result (sym c.ok.ensures.value ∙ c.in_ok-number.was) c.parse_prefix_pos.ensures.prefix) in search rules
