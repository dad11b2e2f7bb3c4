use Rattle.std.proofs.Common.{rules, codes}
use Rattle.std.proofs.lemmas.Slice.Eq.{text_from_reads}
use Rattle.atoi_tool.proofs.request.integer_of.Goals as goal

pub returns-in-usize : goal.returns-in-usize
returns-in-usize c = rw (text_from_reads c.args.word.now (codes "usize") (search rules) (search rules))

pub returns-in-isize : goal.returns-in-isize
returns-in-isize c = rw (text_from_reads c.args.word.now (codes "isize") (search rules) (search rules))
