-- The byte before the separator is the number.
use Rattle.std.proofs.Common.{◌≡◌, ◌∷◌, drop, refl, sym, ◌∙◌, arith}
use Rattle.std.proofs.lemmas.Result.{IfOk-at_ok}
use Rattle.std.proofs.lemmas.List.{drop_more, take_rest}
use Rattle.atoi_column.proofs.lemmas.FoundFields.{ok_is, one_digit_prefix, text_with_plus}
use Rattle.atoi_column.proofs.fields.one_digit_field.Goals as goal

pub returns-in_ok-value-in-len2-up : goal.returns-in_ok-value-in-len2-up
returns-in_ok-value-in-len2-up g c = λ separates.
    let rest = c.args.rest.now in
    let ends : drop 1 rest ≡ c.args.separator ∷ drop 2 rest =
    rw (drop_more rest 1 0 (omega (arith, c.in-len2-up.len_at_least)), c.if-second-separator.true) refl in
    let parsed = ok_is c.parse.result (sym c.ok.ensures.value ∙ c.in_ok-value-in-len2-up.was) in
    let written = text_with_plus (IfOk-at_ok _ parsed c.parse.ensures.number) in
    record {
      prefix = one_digit_prefix rest c.fields_are_prefixes.ensures c.prefix_is_whole.ensures c.accepted_texts.ensures
          separates written ends;
      written = written;
      ends = rw (take_rest rest 2) ends;
    }
