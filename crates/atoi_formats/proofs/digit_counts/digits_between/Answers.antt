-- The digits are the prefix that a parse of the front finds.
use Rattle.std.proofs.Common.{◌≡◌, ◌<◌, length, drop, refl, sym, ◌∙◌, arith, rules}
use Rattle.atoi_core.specs.Laws.{positive}
use Rattle.atoi_formats.proofs.lemmas.Outcomes.{accepted, refused}
use Rattle.atoi_formats.proofs.lemmas.Leading as leading
use Rattle.atoi_formats.proofs.digit_counts.digits_between.Goals as goal

pub returns-in_err-number-clause-none : goal.returns-in_err-number-clause-none
returns-in_err-number-clause-none g c = rw c.from_residual.ensures (λ number digits rest written are parts.
    let front = c.split_at.ensures.front ∙ leading.front are parts c.min.ensures in
    let prefix = c.prefixes_and_rests.ensures.of_parts positive c.split_at.result.0.now
    digits _ number front written (leading.ends are parts c.min.ensures) in
    (refused c.parse_prefix_pos.result (sym c.ok.ensures.value ∙ c.in_err-number.was)
    (c.parse_prefix_pos.ensures.refused refl)) number (length digits) prefix)

pub returns-then-count-least-clause-none : goal.returns-then-count-least-clause-none
returns-then-count-least-clause-none g c = λ number digits rest written are parts.
    let front = c.split_at.ensures.front ∙ leading.front are parts c.min.ensures in
    let same = c.prefixes_and_rests.ensures.cut positive c.split_at.result.0.now
    digits _ number _ _ front written (leading.ends are parts c.min.ensures)
    (accepted _ c.parse_prefix_pos.result (sym c.ok.ensures.value ∙ c.in_ok-number.was) c.parse_prefix_pos.ensures.prefix) in
    let count = leading.count_of _ _ _
    (accepted _ c.parse_prefix_pos.result (sym c.ok.ensures.value ∙ c.in_ok-number.was)
    c.parse_prefix_pos.ensures.prefix).within same.1.0 in
    let few : c.in_ok-number.count < c.args.least = search rules in
    omega (arith, count, are.enough, few)

pub returns-else-count-least-clause-only : goal.returns-else-count-least-clause-only
returns-else-count-least-clause-only g c = λ number digits rest written are parts.
    let front = c.split_at.ensures.front ∙ leading.front are parts c.min.ensures in
    let same = c.prefixes_and_rests.ensures.cut positive c.split_at.result.0.now
    digits _ number _ _ front written (leading.ends are parts c.min.ensures)
    (accepted _ c.parse_prefix_pos.result (sym c.ok.ensures.value ∙ c.in_ok-number.was) c.parse_prefix_pos.ensures.prefix) in
    let after = leading.rest_of _ _ parts
    (leading.count_of _ _ _
    (accepted _ c.parse_prefix_pos.result (sym c.ok.ensures.value ∙ c.in_ok-number.was)
    c.parse_prefix_pos.ensures.prefix).within same.1.0) in
    let back : c.split_at-2.result.1.now ≡ drop c.in_ok-number.count c.args.text.now = search rules in
    let value = same.0 in let rest_is = after ∙ sym back in search rules
