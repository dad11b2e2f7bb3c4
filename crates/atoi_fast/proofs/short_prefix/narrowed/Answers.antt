-- The same number, if the other type has it.
use Rattle.std.proofs.Common.{◌∙◌, sym, arith}
use Rattle.std.proofs.lemmas.Bool.Decides.{nat_tests}
use Rattle.atoi_fast.proofs.lemmas.OtherTypes.{other_type, same_magnitude}
use Rattle.atoi_fast.proofs.short_prefix.narrowed.Goals as goal
use Rattle.atoi_fast.proofs.short_prefix.narrowed.Goals.{then-BITS-lt64+else-magnitude-GREATEST+else-len-gt16, else-BITS-lt64}

pub returns : goal.returns
returns g c s begins =
    let wide = g.W.Number.int_type in
    let int = g.T.Number.int_type in
    let of_wide = g.met.W.Number.type_is in
    let of_int = g.met.T.Number.type_is in
    let word = of_wide.bits_are ∙ c.requires.word in
    let same = of_wide.sign_is ∙ c.requires.sign ∙ sym of_int.sign_is in
    elim c.if-BITS-lt64.branch [
      | then-BITS-lt64+else-magnitude-GREATEST+else-len-gt16 w ↦
          other_type wide int s _ _ word same (λ narrow. omega arith)
          (λ minus magnitude is within. same_magnitude int.greatest _ minus _ magnitude (is ∙ sym w.parts-minus.ensures.number)
          (grind (arith, nat_tests, of_int.greatest_is, w.from.ensures))) begins
      | else-BITS-lt64 w ↦
          other_type wide int s _ _ word same (λ narrow. absurd (omega (arith, of_int.bits_are, w.if-BITS-lt64)))
          (λ minus magnitude is within. grind (arith, nat_tests, of_int.sized.bits, of_int.sized.greatest, of_wide.sized.greatest)) begins
    ]
