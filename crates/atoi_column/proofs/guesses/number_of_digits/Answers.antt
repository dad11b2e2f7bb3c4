use Rattle.std.proofs.Common.{◌∙◌, arith}
use Rattle.std.proofs.lemmas.List.{take_rest}
use Rattle.atoi_column.proofs.lemmas.Guesses.{text_of_digits}
use Rattle.atoi_column.proofs.guesses.number_of_digits.Goals as goal

pub returns-clause-written : goal.returns-clause-written
returns-clause-written g c =
    let sign = c.sign_len-sign.result in
    text_of_digits g.T.Number.int_type c.args.rest.now sign c.args.width _ c.sign_len-sign.ensures.few
    (λ some. let taken = c.sign_len-sign.ensures.minus some in (g.met.T.Number.type_is.sign_is ∙ taken.0, taken.1))
    (omega arith) (rw (take_rest c.args.rest.now sign) at c.in_ok-number_of_width.ensures.run)
    (rw (take_rest c.args.rest.now sign) at c.in_ok-number_of_width.ensures.value)
    c.in_ok-value.ensures.fits c.in_ok-value.ensures.number
