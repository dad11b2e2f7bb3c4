use Rattle.std.proofs.Common.{rules, codes}
use Rattle.std.proofs.lemmas.Slice.Eq.{text_from_reads}
use Rattle.atoi_tool.proofs.row.query_of.Goals as goal

pub returns-in-column-clause-query : goal.returns-in-column-clause-query
returns-in-column-clause-query c =
    rw (text_from_reads c.args.call.now (codes "column") (search rules) (search rules)) c.column_of.ensures.query
