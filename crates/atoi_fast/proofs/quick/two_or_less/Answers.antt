-- One digit or two before another byte, or one digit alone.
use Rattle.std.proofs.Common.{arith}
use Rattle.std.proofs.lemmas.Bool.Decides.{nat_tests}
use Rattle.atoi_fast.proofs.lemmas.FirstBytes.{first_digit, first_two_digits}
use Rattle.atoi_fast.proofs.quick.two_or_less.Goals as goal
use Rattle.atoi_fast.proofs.quick.two_or_less.Goals.{in-48-to-57-3, else-s-lt2+in-48-to-57-3}

pub returns-in-48-to-57 : goal.returns-in-48-to-57
returns-in-48-to-57 g c =
    rw (c.from_parts.ensures, c.from.ensures)
    (first_digit g.T.Number.int_type g.met.T.Number.type_is.sized c.args.s.now (grind (arith, nat_tests)) (grind (arith, nat_tests))
    (grind (arith, nat_tests)) (λ two. grind (arith, nat_tests, c.is_ascii_digit.ensures)))

pub returns-in-48-to-57-2 : goal.returns-in-48-to-57-2
returns-in-48-to-57-2 g c =
    rw (c.from_parts-in-48-to-57-2.ensures, c.from-in-48-to-57-2-3.ensures, c.from-in-48-to-57-2.ensures, c.from-in-48-to-57-2-2.ensures)
    (first_two_digits g.T.Number.int_type g.met.T.Number.type_is.sized c.args.s.now (grind (arith, nat_tests))
    (grind (arith, nat_tests)) (grind (arith, nat_tests)) (grind (arith, nat_tests)) (grind (arith, nat_tests))
    (grind (arith, nat_tests, c.is_ascii_digit-then-s-lt58-6.ensures)))

pub returns-in-48-to-57-3 : goal.returns-in-48-to-57-3
returns-in-48-to-57-3 g c =
    let int = g.T.Number.int_type in
    let sized = g.met.T.Number.type_is.sized in
    elim c.in-48-to-57-3-1.branch [
      | in-48-to-57-3 w ↦
          rw (c.from_parts-in-48-to-57-3.ensures, c.from-in-48-to-57-3.ensures, w.first-is)
          (first_digit int sized c.args.s.now (grind (arith, nat_tests)) (grind (arith, nat_tests)) (grind (arith, nat_tests))
          (λ two. absurd (grind (arith, nat_tests))))
      | else-s-lt2+in-48-to-57-3 w ↦
          rw (c.from_parts-in-48-to-57-3.ensures, c.from-in-48-to-57-3.ensures, w.first-is)
          (first_digit int sized c.args.s.now (grind (arith, nat_tests)) (grind (arith, nat_tests)) (grind (arith, nat_tests))
          (λ two. absurd (grind (arith, nat_tests))))
    ]
