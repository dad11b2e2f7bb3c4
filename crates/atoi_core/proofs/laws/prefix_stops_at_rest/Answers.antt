-- The law is a lemma: a search for it takes most of a search's limit.
use Rattle.atoi_core.proofs.lemmas.Prefixes.{prefix_stops_at_rest}
use Rattle.atoi_core.proofs.laws.prefix_stops_at_rest.Goals as goal

pub returns : goal.returns
returns g c = prefix_stops_at_rest g.T.Number.int_type
