-- A number has no fault, and an error's fault is the only one of its text.
use Rattle.atoi_formats.specs.declared.int_error.Fault.TheVariants.{NoDigit, UnexpectedByte, TooLarge, TooSmall}
use Rattle.atoi_formats.proofs.lemmas.Ascii.{whole_fails, whole_accepts}
use Rattle.atoi_formats.proofs.ascii_numbers.from_ascii.Goals as goal

pub returns-in-Ok-clause-unexpected_byte : goal.returns-in-Ok-clause-unexpected_byte
returns-in-Ok-clause-unexpected_byte g c =
    whole_accepts g.met.T.Number.type_is.sized c.args.text.now _ c.in-Ok.ensures.number UnexpectedByte

pub returns-in-Ok-clause-too_large : goal.returns-in-Ok-clause-too_large
returns-in-Ok-clause-too_large g c =
    whole_accepts g.met.T.Number.type_is.sized c.args.text.now _ c.in-Ok.ensures.number TooLarge

pub returns-in-Ok-clause-too_small : goal.returns-in-Ok-clause-too_small
returns-in-Ok-clause-too_small g c =
    whole_accepts g.met.T.Number.type_is.sized c.args.text.now _ c.in-Ok.ensures.number TooSmall

pub returns-in-Err-clause-no_digit : goal.returns-in-Err-clause-no_digit
returns-in-Err-clause-no_digit g c =
    whole_fails g.met.T.Number.type_is.sized c.args.text.now _ c.whole_error.ensures NoDigit

pub returns-in-Err-clause-unexpected_byte : goal.returns-in-Err-clause-unexpected_byte
returns-in-Err-clause-unexpected_byte g c =
    whole_fails g.met.T.Number.type_is.sized c.args.text.now _ c.whole_error.ensures UnexpectedByte

pub returns-in-Err-clause-too_large : goal.returns-in-Err-clause-too_large
returns-in-Err-clause-too_large g c =
    whole_fails g.met.T.Number.type_is.sized c.args.text.now _ c.whole_error.ensures TooLarge

pub returns-in-Err-clause-too_small : goal.returns-in-Err-clause-too_small
returns-in-Err-clause-too_small g c =
    whole_fails g.met.T.Number.type_is.sized c.args.text.now _ c.whole_error.ensures TooSmall
