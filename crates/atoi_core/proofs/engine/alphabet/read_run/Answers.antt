-- One more digit keeps the invariant, and the number still fits in 64 bits.
use Rattle.std.proofs.Common.{◌≡◌, ◌<◌, ◌+◌, ◌*◌, ◌^◌, ◌∙◌, sym, Some, get_or, arith}
use Rattle.atoi_core.proofs.lemmas.Runs.{value_more, run_more, digit_is_below_ten, digit_joins, sixteen_digits}
use Rattle.atoi_core.proofs.engine.alphabet.read_run.Goals as goal
use Rattle.atoi_core.proofs.engine.alphabet.read_run.Goals.{In-Some}

digit_of : (g : _) (c : goal.In-Some g) → g.A.Alphabet.table (get_or c.args.s.now c.loop-len.len 0) ≡ Some c.in-Some.digit_value
digit_of g c = sym c.digit_value.ensures ∙ c.in-Some.is

small_of : (g : _) (c : goal.In-Some g) → c.loop-len.number * 10 + c.in-Some.digit_value < 10 ^ (c.loop-len.len + 1)
small_of g c =
    digit_joins c.loop-len.len c.loop-len.number c.in-Some.digit_value c.loop-len.invariant.small
    (digit_is_below_ten g.A.Alphabet.table g.met.A.Alphabet.below_ten
    (get_or c.args.s.now c.loop-len.len 0) c.in-Some.digit_value (digit_of g c))

fits_of : (g : _) (c : goal.In-Some g) → c.loop-len.number * 10 + c.in-Some.digit_value < 2 ^ 64
fits_of g c = sixteen_digits (c.loop-len.len + 1) _ (omega arith) (small_of g c)

pub overflow_mul-number : goal.overflow_mul-number
overflow_mul-number g c = omega (arith, fits_of g c)

pub overflow_add-number : goal.overflow_add-number
overflow_add-number g c = omega (arith, fits_of g c)

pub loop-len-preserved : goal.loop-len-preserved
loop-len-preserved g c = search (arith, run_more, value_more, digit_of g c, small_of g c)
