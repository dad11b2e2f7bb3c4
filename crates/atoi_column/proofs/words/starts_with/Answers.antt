use Rattle.std.proofs.Common.{◌==◌, sym, ap, ◌∙◌, rules}
use Rattle.atoi_column.proofs.lemmas.Guesses.{first_of_two}
use Rattle.atoi_column.proofs.words.starts_with.Goals as goal

pub returns-in-Some-clause-bytes : goal.returns-in-Some-clause-bytes
returns-in-Some-clause-bytes c = λ two.
    ap (λ word. word == c.args.bytes) (sym (first_of_two c.args.s.now c.in-Some.two.now (λ i. (c.type_inv.s i).fits) c.args.count
    c.requires.few (search rules) _ (c.from.ensures ∙ c.from_le_bytes.ensures)))
