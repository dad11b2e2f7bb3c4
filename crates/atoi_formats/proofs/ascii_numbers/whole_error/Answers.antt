-- The reason of the parse says where the fault is.
use Rattle.std.proofs.Common.{arith}
use Rattle.std.proofs.lemmas.Bool.Decides.{nat_tests}
use Rattle.atoi_core.specs.Refusal.{refusal_of}
use Rattle.atoi_formats.proofs.lemmas.Ascii.{whole_reason}
use Rattle.atoi_formats.proofs.ascii_numbers.whole_error.Goals as goal

pub returns : goal.returns
returns g c =
    let h = whole_reason g.T.Number.int_type g.met.T.Number.type_is.sized c.args.text.now (refusal_of c.args.cause) c.requires in
    grind (arith, nat_tests, h, g.met.T.Number.type_is.sign_is)
