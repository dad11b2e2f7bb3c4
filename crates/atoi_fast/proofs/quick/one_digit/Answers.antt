-- The byte is a digit.
use Rattle.std.proofs.Common.{arith}
use Rattle.std.proofs.lemmas.Bool.Decides.{nat_tests}
use Rattle.atoi_fast.proofs.lemmas.FirstBytes.{only_digit}
use Rattle.atoi_fast.proofs.quick.one_digit.Goals as goal

pub returns-in-48-to-57 : goal.returns-in-48-to-57
returns-in-48-to-57 c int sized =
    only_digit int sized c.args.s.now (grind (arith, nat_tests)) (grind (arith, nat_tests)) (grind (arith, nat_tests))
