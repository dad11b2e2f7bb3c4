-- A wide type has no number of so few digits out of range.
use Rattle.std.proofs.Common.{◌≡◌, arith}
use Rattle.std.proofs.lemmas.Bool.Decides.{nat_tests}
use Rattle.atoi_core.proofs.lemmas.LoopAnswers.{short_in_range}
use Rattle.atoi_fast.proofs.calls.whole_short.Goals as goal

pub returns-then-not-is_empty-clause-answer : goal.returns-then-not-is_empty-clause-answer
returns-then-not-is_empty-clause-answer g c =
    let digits = c.requires.bound.digits (omega arith) in
    let in_range = short_in_range g.E.Engine.table g.met.E.Engine.below_ten g.T.Number.int_type
    c.args.s.now c.requires.short c.args.bound digits in
    rw in_range (grind (arith, nat_tests))

pub returns-then-BITS-eq64-clause-answer : goal.returns-then-BITS-eq64-clause-answer
returns-then-BITS-eq64-clause-answer g c =
    let int = g.T.Number.int_type in
    let wide : int.bits ≡ 64 = omega (arith, g.met.T.Number.type_is.bits_are) in
    let digits = c.requires.bound.digits (omega arith) in
    let in_range = short_in_range g.E.Engine.table g.met.E.Engine.below_ten int c.args.s.now c.requires.short c.args.bound digits in
    rw (in_range, wide) (grind (arith, nat_tests))
