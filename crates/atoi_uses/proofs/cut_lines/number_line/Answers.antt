-- A line feed is no digit, so a number and a line feed are the prefix that was found, or there are none.
use Rattle.std.proofs.Common.{◌≡◌, true, refl, sym, ◌∙◌, inl}
use Rattle.std.specs.declared.num.IntErrorKind.TheVariants.{Empty as empty_kind}
use Rattle.atoi_core.specs.Laws.{looked_for}
use Rattle.atoi_formats.specs.Ascii.{kind_of_fault}
use Rattle.atoi_formats.specs.declared.int_error.Fault.{Fault}
use Rattle.atoi_formats.specs.declared.int_error.Fault.TheVariants.{Empty, NoDigit, UnexpectedByte, TooLarge, TooSmall}
use Rattle.atoi_uses.proofs.cut_lines.number_line.Goals as goal

only_empty : (fault : Fault) → kind_of_fault fault ≡ empty_kind → fault ≡ Empty
only_empty Empty is = refl
only_empty NoDigit is = absurd (cc)
only_empty UnexpectedByte is = absurd (cc)
only_empty TooLarge is = absurd (cc)
only_empty TooSmall is = absurd (cc)

pub returns-in-Empty-clause-cut : goal.returns-in-Empty-clause-cut
returns-in-Empty-clause-cut c =
    let fault = only_empty c.in-Err.error.fault (sym c.kind.ensures ∙ c.in-Empty.is) in
    let is = (c.in-Err.ensures.empty c.in-Err.error.offset).0 (rw fault refl) in inl (rw is.1 at is.0)

pub returns-in_default : goal.returns-in_default
returns-in_default c = record {
  some = tt;
  cut = tt;
  refused = λ number rest has.
      let found = (c.number_then_byte.ensures.exact (looked_for true) c.args.buffer.now number 10 rest refl).0 has in
      c.in-Err.ensures.refused number found.0 found.1.0;
}

pub returns-in-None-2-clause-refused : goal.returns-in-None-2-clause-refused
returns-in-None-2-clause-refused c = λ number rest has.
    let found = c.number_then_byte.ensures.cut (looked_for true) c.args.buffer.now number _ 10 rest _ refl has c.in-Ok.ensures.some in
    c.in-None.ensures.none rest (c.split_at.ensures.back ∙ found.1)
