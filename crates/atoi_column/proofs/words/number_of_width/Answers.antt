use Rattle.std.proofs.Common.{◌≡◌, ◌+◌, ◌-◌, arith}
use Rattle.std.proofs.lemmas.List.{take_rest}
use Rattle.atoi_column.proofs.lemmas.Widths.{joined_values}
use Rattle.atoi_column.proofs.words.number_of_width.Goals as goal

pub returns : goal.returns
returns c =
    let s = c.args.s.now in
    let front = c.args.width - 8 in
    let all : front + 8 ≡ c.args.width = omega arith in
    let low = rw (take_rest s front) at c.in_ok-low.ensures in
    let found = rw all at (joined_values front s c.in_ok-high.high c.in_ok-low.low
    (omega arith) c.in_ok-high.ensures.run c.in_ok-high.ensures.value low.run low.value) in
    record { run = found.0; value = found.1 }
