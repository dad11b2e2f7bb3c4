use Rattle.std.proofs.Common.{arith, refl}
use Rattle.atoi_column.proofs.lemmas.FieldItems.{length-field_items_left}
use Rattle.atoi_column.proofs.lemmas.Places.{field_items_left-inside}
use Rattle.atoi_column.proofs.fields.Fields.new.Goals as goal

pub returns-clause-fits : goal.returns-clause-fits
returns-clause-fits g c = length-field_items_left g.T.Number.int_type _

pub returns-clause-places : goal.returns-clause-places
returns-clause-places g c = field_items_left-inside g.T.Number.int_type _ refl (omega arith)
