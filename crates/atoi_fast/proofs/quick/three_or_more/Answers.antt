-- Three digits before another byte.
use Rattle.std.proofs.Common.{arith}
use Rattle.std.proofs.lemmas.Bool.Decides.{nat_tests}
use Rattle.atoi_fast.proofs.lemmas.FirstBytes.{first_three_digits}
use Rattle.atoi_fast.proofs.quick.three_or_more.Goals as goal

pub returns-in_ok-number-in-len4-up : goal.returns-in_ok-number-in-len4-up
returns-in_ok-number-in-len4-up g c =
    let r = c.requires in
    rw c.in_ok-number-in-len4-up.ensures.number
    (first_three_digits g.T.Number.int_type c.args.s.now (omega arith)
    (grind (arith, nat_tests, c.is_ascii_digit-then-not-is_ascii_digit.ensures))
    (grind (arith, nat_tests, c.is_ascii_digit-then-not-is_ascii_digit.ensures)) r.second.0 r.second.1 r.third.0 r.third.1
    (grind (arith, nat_tests, c.is_ascii_digit.ensures)) _
    (omega (arith, c.from.ensures, c.from-in-len4-up.ensures, c.from-in-len4-up-2.ensures)) c.in_ok-number-in-len4-up.ensures.in_range)
