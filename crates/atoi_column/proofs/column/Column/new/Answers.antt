use Rattle.atoi_column.proofs.lemmas.Items.{length-items_left}
use Rattle.atoi_column.proofs.lemmas.Places.{items_left-inside}
use Rattle.atoi_column.proofs.column.Column.new.Goals as goal

pub returns-clause-fits : goal.returns-clause-fits
returns-clause-fits g c =
    length-items_left g.T.Number.int_type c.args.separator 0 0 c.args.input.now

pub returns-clause-places : goal.returns-clause-places
returns-clause-places g c = items_left-inside g.T.Number.int_type c.fields_are_prefixes.ensures c.args.separator c.requires c.args.input.now
