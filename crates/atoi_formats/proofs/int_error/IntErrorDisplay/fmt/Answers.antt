-- The digits are ASCII, so they are valid UTF-8.
use Rattle.std.proofs.Common.{◌≡◌, ◌++◌, decimal, arith, rules}
use Rattle.std.proofs.lemmas.Str.{IsUtf8-from_ascii}
use Rattle.atoi_formats.specs.Ascii.{int_error_text}
use Rattle.atoi_formats.proofs.lemmas.Written.{written_both}
use Rattle.atoi_formats.proofs.int_error.IntErrorDisplay.fmt.Goals as goal

pub unwrap-requires : goal.unwrap-requires
unwrap-requires g c = search (rules, IsUtf8-from_ascii)

pub returns-clause-styled : goal.returns-clause-styled
returns-clause-styled g c = λ flush ok.
    let first = c.write_str-2.ensures.styled flush (search rules) in
    let both = written_both g.W.Write.write_str_gives _ _ _ _ _ first (c.write_str-3.ensures.styled first.flush ok) in
    let digits : c.unwrap.result.now ≡ decimal c.args.self.now.offset = search rules in
    let text : int_error_text c.args.self.now ≡ c.match-self.what.now ++ c.unwrap.result.now =
    rw digits (elim c.match-self.branch [ goal.in-Empty w ↦ grind arith | goal.in-UnexpectedByte w ↦ grind arith ]) in
    rw text both
