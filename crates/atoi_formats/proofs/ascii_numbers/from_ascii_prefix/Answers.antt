-- A text that begins with a number has no fault, and an error's fault is the only one of its text.
use Rattle.std.proofs.Common.{true, refl}
use Rattle.atoi_core.specs.Laws.{looked_for}
use Rattle.atoi_formats.specs.declared.int_error.Fault.TheVariants.{NoDigit, UnexpectedByte, TooLarge, TooSmall}
use Rattle.atoi_formats.proofs.lemmas.Ascii.{prefix_fails, prefix_accepts}
use Rattle.atoi_formats.proofs.ascii_numbers.from_ascii_prefix.Goals as goal

pub prefix_error-requires : goal.prefix_error-requires
prefix_error-requires g c = c.in-Err.ensures.refused refl

pub returns-in-Ok-clause-only : goal.returns-in-Ok-clause-only
returns-in-Ok-clause-only g c = λ number count before.
    c.prefixes_and_rests.ensures.only (looked_for true) c.args.text.now number _ count _ before c.in-Ok.ensures.prefix

pub returns-in-Err-clause-refused : goal.returns-in-Err-clause-refused
returns-in-Err-clause-refused g c = c.in-Err.ensures.refused refl

pub returns-in-Ok-clause-no_digit : goal.returns-in-Ok-clause-no_digit
returns-in-Ok-clause-no_digit g c =
    prefix_accepts g.met.T.Number.type_is.sized c.args.text.now _ c.in-Ok.ensures.prefix NoDigit

pub returns-in-Ok-clause-unexpected_byte : goal.returns-in-Ok-clause-unexpected_byte
returns-in-Ok-clause-unexpected_byte g c =
    prefix_accepts g.met.T.Number.type_is.sized c.args.text.now _ c.in-Ok.ensures.prefix UnexpectedByte

pub returns-in-Ok-clause-too_large : goal.returns-in-Ok-clause-too_large
returns-in-Ok-clause-too_large g c =
    prefix_accepts g.met.T.Number.type_is.sized c.args.text.now _ c.in-Ok.ensures.prefix TooLarge

pub returns-in-Ok-clause-too_small : goal.returns-in-Ok-clause-too_small
returns-in-Ok-clause-too_small g c =
    prefix_accepts g.met.T.Number.type_is.sized c.args.text.now _ c.in-Ok.ensures.prefix TooSmall

pub returns-in-Err-clause-no_digit : goal.returns-in-Err-clause-no_digit
returns-in-Err-clause-no_digit g c =
    prefix_fails g.met.T.Number.type_is.sized c.args.text.now _ c.prefix_error.ensures NoDigit

pub returns-in-Err-clause-unexpected_byte : goal.returns-in-Err-clause-unexpected_byte
returns-in-Err-clause-unexpected_byte g c =
    prefix_fails g.met.T.Number.type_is.sized c.args.text.now _ c.prefix_error.ensures UnexpectedByte

pub returns-in-Err-clause-too_large : goal.returns-in-Err-clause-too_large
returns-in-Err-clause-too_large g c =
    prefix_fails g.met.T.Number.type_is.sized c.args.text.now _ c.prefix_error.ensures TooLarge

pub returns-in-Err-clause-too_small : goal.returns-in-Err-clause-too_small
returns-in-Err-clause-too_small g c =
    prefix_fails g.met.T.Number.type_is.sized c.args.text.now _ c.prefix_error.ensures TooSmall
