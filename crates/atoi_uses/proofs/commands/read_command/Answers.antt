-- A line is accepted exactly if it is a command, and an error says why not.
use Rattle.std.proofs.Common.{◌≡◌, Ok, ap, sym, subst, rules, w64}
use Rattle.std.proofs.lemmas.Int.{to_z-of_z}
use Rattle.atoi_uses.specs.Commands.{IsCommand}
use Rattle.atoi_uses.proofs.lemmas.Commands.{only_command}
use Rattle.atoi_uses.proofs.commands.read_command.Goals as goal

pub returns-in-Ok-clause-exact : goal.returns-in-Ok-clause-exact
returns-in-Ok-clause-exact c =
    let has = c.in-Some.ensures.some in
    let is : IsCommand c.args.line.now (record { word = c.in-Some.word; number = c.in-Ok.number }) =
    record { text = c.in-Some.text.now; parts = has; written = (search rules) } in
    rw (to_z-of_z w64 c.in-Ok.number (search rules)) (λ command. (
      λ same. let made : record { word = c.in-Some.word; number = c.in-Ok.number } ≡ command =
          cc in subst (IsCommand c.args.line.now) made is,
      λ given. ap Ok (only_command c.one_number.ensures c.args.line.now
          c.in-Some.text.now c.in-Some.word c.in-Ok.number has is.written command given),
    ))

pub returns-in_default-clause-refused : goal.returns-in_default-clause-refused
returns-in_default-clause-refused c = c.in_default.ensures.none

pub returns-in-Err-clause-refused : goal.returns-in-Err-clause-refused
returns-in-Err-clause-refused c = (c.in-Some.word, (c.in-Some.text.now, (c.in-Some.ensures.some, sym c.in-Err.ensures.answer)))
