use Rattle.std.proofs.Common.{◌==◌, not, sym, ◌∙◌, arith}
use Rattle.std.proofs.lemmas.List.Sums.{prefix_len-le-length}
use Rattle.atoi_column.proofs.lemmas.Items.{drop_first}
use Rattle.atoi_column.proofs.fields.first_field.Goals as goal

pub split_at-requires : goal.split_at-requires
split_at-requires c = omega (arith, prefix_len-le-length (λ byte. not (byte == c.args.separator)) c.args.rest.now)

pub returns-in-Some-clause-following : goal.returns-in-Some-clause-following
returns-in-Some-clause-following c =
    let cut = drop_first c.field_len.result c.args.rest.now _ _ (sym c.split_at.ensures.back ∙ c.in-Some.ensures.cases.0) in
    rw c.field_len.ensures at (sym cut.2)
