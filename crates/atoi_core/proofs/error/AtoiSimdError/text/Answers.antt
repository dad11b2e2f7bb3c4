-- The text is ASCII, since its parts are.
use Rattle.std.proofs.Common.{arith, rules}
use Rattle.std.proofs.lemmas.Fmt.{IsAscii-decimal_wide}
use Rattle.std.proofs.lemmas.Str.{IsAscii-append}
use Rattle.atoi_core.proofs.lemmas.ErrorTexts.{IsAscii-literal}
use Rattle.atoi_core.proofs.error.AtoiSimdError.text.Goals as goal

pub returns-in-Size-clause-ascii : goal.returns-in-Size-clause-ascii
returns-in-Size-clause-ascii c =
    let number = IsAscii-decimal_wide c.in-Size.length (omega arith) in
    rw c.in-Size.is (search (rules, IsAscii-append, IsAscii-literal, number, c.put_input.ensures.ascii))

pub returns-in-Overflow-clause-ascii : goal.returns-in-Overflow-clause-ascii
returns-in-Overflow-clause-ascii c =
    rw c.in-Overflow.is (search (rules, IsAscii-append, IsAscii-literal, c.put_input-in-Overflow.ensures.ascii))

pub returns-in-Invalid64-clause-ascii : goal.returns-in-Invalid64-clause-ascii
returns-in-Invalid64-clause-ascii c =
    let number = IsAscii-decimal_wide c.in-Invalid64.number (omega arith) in
    let index = IsAscii-decimal_wide c.in-Invalid64.index (omega arith) in
    rw c.in-Invalid64.is (search (rules, IsAscii-append, IsAscii-literal, number, index, c.put_input-in-Invalid64.ensures.ascii) depth 8)

pub returns-in-Invalid128-clause-ascii : goal.returns-in-Invalid128-clause-ascii
returns-in-Invalid128-clause-ascii c =
    let number = IsAscii-decimal_wide c.in-Invalid128.number (omega arith) in
    let index = IsAscii-decimal_wide c.in-Invalid128.index (omega arith) in
    rw c.in-Invalid128.is (search (rules, IsAscii-append, IsAscii-literal, number, index, c.put_input-in-Invalid128.ensures.ascii) depth 8)
