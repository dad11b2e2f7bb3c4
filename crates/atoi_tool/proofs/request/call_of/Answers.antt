use Rattle.std.proofs.Common.{rules, codes}
use Rattle.std.proofs.lemmas.Slice.Eq.{text_from_reads}
use Rattle.atoi_tool.proofs.request.call_of.Goals as goal

pub returns-in-parse : goal.returns-in-parse
returns-in-parse c = rw (text_from_reads c.args.word.now (codes "parse") (search rules) (search rules))

pub returns-in-prefix : goal.returns-in-prefix
returns-in-prefix c = rw (text_from_reads c.args.word.now (codes "prefix") (search rules) (search rules))

-- The arms of `prefix_pos` and `prefix_neg`, whose goals have the name of their `p`.
pub returns-in-112 : goal.returns-in-112
returns-in-112 c = rw (text_from_reads c.args.word.now (codes "prefix_pos") (search rules) (search rules))

pub returns-in-112-2 : goal.returns-in-112-2
returns-in-112-2 c = rw (text_from_reads c.args.word.now (codes "prefix_neg") (search rules) (search rules))
