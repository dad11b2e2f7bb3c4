use Rattle.std.proofs.Common.{◌≡◌, take, length, rules}
use Rattle.atoi_column.proofs.guesses.number_of_any_width.Goals as goal

pub returns-clause-written : goal.returns-clause-written
returns-clause-written g c =
    let whole : take (length c.in_ok-text.text.now) c.args.rest.now ≡ c.in_ok-text.text.now = search rules in
    rw whole (search rules)
