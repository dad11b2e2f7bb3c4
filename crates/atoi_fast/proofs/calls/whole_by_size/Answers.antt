-- One window decides a short slice.
use Rattle.std.proofs.Common.{◌∙◌}
use Rattle.atoi_core.specs.IntType.{class_of}
use Rattle.atoi_core.specs.Loads.{skips_zeros}
use Rattle.atoi_core.specs.Magnitude.{whole}
use Rattle.atoi_core.proofs.lemmas.LoopAnswers.{short_decides}
use Rattle.atoi_core.proofs.lemmas.Windows.{short_loads}
use Rattle.atoi_fast.proofs.calls.whole_by_size.Goals as goal

pub returns-clause-answer : goal.returns-clause-answer
returns-clause-answer g c =
    rw c.greatest_magnitude.ensures.value at c.whole_short.ensures.answer
    ∙ short_decides g.E.Engine.table g.met.E.Engine.below_ten g.T.Number.int_type c.args.s.now
    c.if-s-ge16.false g.met.T.Number.type_is.sized c.args.minus c.args.skip

pub returns-clause-loads : goal.returns-clause-loads
returns-clause-loads g c =
    let class = class_of g.T.Number.int_type in
    short_loads g.E.Engine.table class (skips_zeros class whole c.args.skip) c.args.s.now c.if-s-ge16.false c.whole_short.ensures.one_step
