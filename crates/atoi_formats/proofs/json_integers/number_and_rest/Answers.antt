-- A zero is read alone. Any other number is the prefix that a parse finds.
use Rattle.std.proofs.Common.{[], ◌∷◌, ◌++◌, length, refl, sym, ◌∙◌, append_assoc, false, rules, take-append-drop}
use Rattle.atoi_core.specs.Laws.{looked_for}
use Rattle.atoi_formats.specs.Formats.{IsJsonInteger, minus_if}
use Rattle.atoi_formats.proofs.lemmas.Outcomes.{accepted, refused}
use Rattle.atoi_formats.proofs.lemmas.Json.{no_digit, zero_written, only_zero, to_text, of_text, without_zero}
use Rattle.atoi_formats.proofs.json_integers.number_and_rest.Goals as goal

pub returns-in-Some-clause-some : goal.returns-in-Some-clause-some
unfolding IsJsonInteger
returns-in-Some-clause-some g c =
    let found = c.in-Some.ensures.some in
    let parts = found.1 ∙ sym (append_assoc (minus_if found.0) (48 ∷ []) c.in-Some.rest.now) in
    (minus_if found.0 ++ 48 ∷ [], (rw c.from_pos.ensures (zero_written g.T.Number.int_type found.0), parts))

pub returns-in-Some-clause-only : goal.returns-in-Some-clause-only
unfolding IsJsonInteger
returns-in-Some-clause-only g c = λ number bytes rest is ends parts.
    let found = c.in-Some.ensures.some in
    let same = only_zero is found.0 rest c.in-Some.rest.now (sym parts ∙ found.1) in
    (same.0 ∙ sym c.from_pos.ensures, same.1)

pub returns-in_err-number-clause-none : goal.returns-in_err-number-clause-none
unfolding IsJsonInteger
returns-in_err-number-clause-none g c = rw c.from_residual.ensures (λ number bytes rest is ends parts.
    let text = to_text c.decimal_texts.ensures is (without_zero _ _ parts c.in_default.ensures.none) in
    let prefix = c.prefixes_and_rests.ensures.of_parts (looked_for false)
    c.args.text.now bytes rest number parts text (no_digit rest ends) in
    (refused c.parse_prefix.result (sym c.ok.ensures.value ∙ c.in_err-number.was)
    (c.parse_prefix.ensures.refused refl)) number (length bytes) prefix)

pub returns-clause-some : goal.returns-clause-some
unfolding IsJsonInteger
returns-clause-some g c =
    let parts = sym (take-append-drop c.in_ok-number.count c.args.text.now) in
    let is = of_text (accepted _ c.parse_prefix.result (sym c.ok.ensures.value ∙ c.in_ok-number.was)
    c.parse_prefix.ensures.prefix).written (without_zero _ _ parts c.in_default.ensures.none) in search rules

pub returns-clause-only : goal.returns-clause-only
unfolding IsJsonInteger
returns-clause-only g c = λ number bytes rest is ends parts.
    let text = to_text c.decimal_texts.ensures is (without_zero _ _ parts c.in_default.ensures.none) in
    let same = c.prefixes_and_rests.ensures.cut (looked_for false) c.args.text.now
    bytes rest number _ _ parts text (no_digit rest ends)
    (accepted _ c.parse_prefix.result (sym c.ok.ensures.value ∙ c.in_ok-number.was) c.parse_prefix.ensures.prefix) in
    search rules
