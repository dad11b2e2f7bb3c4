-- The bytes before what ends a field are the field.
use Rattle.std.proofs.Common.{◌+◌, length-drop, refl, sym, arith, eqb-true}
use Rattle.std.proofs.lemmas.List.{take_rest}
use Rattle.atoi_column.proofs.lemmas.FoundFields.{accepted_text}
use Rattle.atoi_column.proofs.fields.read.guessed_field.Goals as goal

pub returns-then-fits_word-clause-accepted : goal.returns-then-fits_word-clause-accepted
returns-then-fits_word-clause-accepted g c = λ separates.
    let rest = c.args.rest.now in
    let end_len = c.end_of-end_word.result.1 in
    let found = c.in_ok-value.ensures in
    rw (take_rest rest (c.in_ok-value.count + end_len)) (accepted_text c.args.is_lines c.args.separator rest c.in_ok-value.count end_len
    c.fields_are_prefixes.ensures c.prefix_is_whole.ensures c.accepted_texts.ensures separates c.end_of-end_word.ensures.ends
    (λ i. (c.type_inv.rest i).fits) found.within found.written found.ends)

pub returns-clause-accepted : goal.returns-clause-accepted
returns-clause-accepted g c = λ separates.
    let rest = c.args.rest.now in
    let count = c.in_ok-value-2.count in
    let end_len = c.end_of-end_word.result.1 in
    let found = c.in_ok-value-2.ensures in
    let end = rw (take_rest rest count) at c.if-not-starts_with.ensures in
    rw (take_rest rest (count + end_len)) (accepted_text c.args.is_lines c.args.separator rest count end_len
    c.fields_are_prefixes.ensures c.prefix_is_whole.ensures c.accepted_texts.ensures separates c.end_of-end_word.ensures.ends
    (λ i. (c.type_inv.rest i).fits)
    (grind (arith, found.within, length-drop count rest, c.end_of-end_word.ensures.few, end.two refl)) found.written
    (eqb-true _ _ (sym (end.bytes (end.two refl)))))
