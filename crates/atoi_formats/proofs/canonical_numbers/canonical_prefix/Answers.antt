-- The prefix that a parse finds is the only candidate, and is accepted exactly if it has no needless byte.
use Rattle.std.proofs.Common.{◌≡◌, false, length, take, refl, sym, ◌∙◌, rules, take-append-drop}
use Rattle.std.proofs.lemmas.Bool.{both_ways}
use Rattle.atoi_core.specs.Laws.{looked_for}
use Rattle.atoi_formats.specs.Formats.{IsCanonical, has_needless_byte}
use Rattle.atoi_formats.proofs.lemmas.Outcomes.{accepted, refused}
use Rattle.atoi_formats.proofs.lemmas.Canonical.{shortest, written, printed}
use Rattle.atoi_formats.proofs.canonical_numbers.canonical_prefix.Goals as goal

pub returns-in_err-number-clause-none : goal.returns-in_err-number-clause-none
unfolding IsCanonical
returns-in_err-number-clause-none g c = rw c.from_residual.ensures (λ number bytes rest is ends parts.
    let prefix = c.prefixes_and_rests.ensures.of_parts (looked_for false)
    c.args.text.now bytes rest number parts (written c.decimal_texts.ensures is) ends in
    (refused c.parse_prefix.result (sym c.ok.ensures.value ∙ c.in_err-number.was)
    (c.parse_prefix.ensures.refused refl)) number (length bytes) prefix)

pub returns-then-has_needless_byte-clause-none : goal.returns-then-has_needless_byte-clause-none
unfolding IsCanonical
returns-then-has_needless_byte-clause-none g c = λ number bytes rest is ends parts.
    let same = c.prefixes_and_rests.ensures.cut (looked_for false) c.args.text.now
    bytes rest number _ _ parts (written c.decimal_texts.ensures is) ends
    (accepted _ c.parse_prefix.result (sym c.ok.ensures.value ∙ c.in_ok-number.was) c.parse_prefix.ensures.prefix) in
    let front : c.split_at.result.0.now ≡ take c.in_ok-number.count c.args.text.now = search rules in
    let long = rw (front, same.1.0) at (sym c.has_needless_byte.ensures ∙ c.if-has_needless_byte.true) in
    both_ways (has_needless_byte bytes) (shortest c.decimal_texts.ensures is) long

pub returns-else-has_needless_byte-clause-some : goal.returns-else-has_needless_byte-clause-some
unfolding IsCanonical
returns-else-has_needless_byte-clause-some g c =
    let front : c.split_at.result.0.now ≡ take c.in_ok-number.count c.args.text.now = search rules in
    let short = rw front at (sym c.has_needless_byte.ensures ∙ c.if-has_needless_byte.false) in
    let is = printed c.decimal_texts.ensures
    (accepted _ c.parse_prefix.result (sym c.ok.ensures.value ∙ c.in_ok-number.was) c.parse_prefix.ensures.prefix).written short in
    let parts = sym (take-append-drop c.in_ok-number.count c.args.text.now) in search rules

pub returns-else-has_needless_byte-clause-only : goal.returns-else-has_needless_byte-clause-only
unfolding IsCanonical
returns-else-has_needless_byte-clause-only g c = λ number bytes rest is ends parts.
    let same = c.prefixes_and_rests.ensures.cut (looked_for false) c.args.text.now
    bytes rest number _ _ parts (written c.decimal_texts.ensures is) ends
    (accepted _ c.parse_prefix.result (sym c.ok.ensures.value ∙ c.in_ok-number.was) c.parse_prefix.ensures.prefix) in search rules
