-- The number that is found is the whole field.
use Rattle.std.proofs.Common.{false, refl, sym, ap, ◌∙◌, rules, eq-eqb}
use Rattle.std.proofs.lemmas.Result.{IfOk-at_ok}
use Rattle.std.proofs.lemmas.List.{take_rest}
use Rattle.atoi_core.specs.Answer.{typed_prefix_answer}
use Rattle.atoi_column.proofs.lemmas.FoundFields.{accepted, ok_is, with_plus, text_with_plus}
use Rattle.atoi_column.proofs.fields.accepted_field.Goals as goal

pub returns-in-Some-clause-some : goal.returns-in-Some-clause-some
returns-in-Some-clause-some g c = λ separates.
    let field = c.in-Some.ensures separates in
    let found = accepted c.args.is_lines (record {
      within = (c.fields_are_prefixes.ensures c.args.separator separates c.args.rest.now).within _ _ field.prefix;
      written = field.written;
      texts = c.accepted_texts.ensures;
    }) {following = c.in-Some.following.now} _ field.ends (rw (eq-eqb c.args.separator _ refl) refl) in
    search rules

pub returns-clause-some : goal.returns-clause-some
returns-clause-some g c = λ separates.
    let parsed = ok_is c.first_number.result (sym c.ok.ensures.value ∙ c.in_ok-value.was) in
    let answer = sym c.first_number.ensures.answer ∙ ap (typed_prefix_answer g.T.Number.number) parsed in
    accepted c.args.is_lines (record {
      within = (c.fields_are_prefixes.ensures c.args.separator separates c.args.rest.now).within _ _
          (with_plus g.T.Number.int_type false c.prefix_begins.ensures c.args.rest.now answer);
      written = text_with_plus (IfOk-at_ok _ parsed c.first_number.ensures.prefix).written;
      texts = c.accepted_texts.ensures;
    }) _ (sym (take_rest c.args.rest.now c.in_ok-value.count)) (sym c.in_ok-following.ensures)
