-- The run of the body decides.
use Rattle.std.proofs.Common.{◌≡◌, ◌+◌, ◌-◌, ◌<◌, length, false, sym, ◌∙◌, arith}
use Rattle.atoi_core.specs.Digit.{decimal_table}
use Rattle.atoi_core.specs.Run.{run_len, run, value}
use Rattle.atoi_core.specs.Sign.{sign_of}
use Rattle.atoi_fast.proofs.lemmas.ByDigits.{prefix_found, prefix_refused}
use Rattle.atoi_fast.proofs.by_digits.prefix_by_digits.Goals as goal

pub returns-in_err-magnitude-clause-none : goal.returns-in_err-magnitude-clause-none
returns-in_err-magnitude-clause-none g c =
    let int = g.T.Number.int_type in
    let s = c.args.s.now in
    let signed : c.SIGNED.result ≡ int.signed = c.SIGNED.ensures ∙ sym g.met.T.Number.type_is.sign_is in
    let minus : c.take_sign-minus.result.0 ≡ (sign_of int.signed false s).minus = rw signed at c.take_sign-minus.ensures.minus in
    let body : c.take_sign-minus.result.1.now ≡ (sign_of int.signed false s).body = rw signed at c.take_sign-minus.ensures.body in
    let over : 0 < run_len decimal_table c.take_sign-minus.result.1.now
    → c.greatest_magnitude.result < value decimal_table (run decimal_table c.take_sign-minus.result.1.now) =
    c.in_err-magnitude.ensures.none in
    rw c.from_residual.ensures
    (prefix_refused int g.met.T.Number.type_is.sized s (rw (c.greatest_magnitude.ensures.value, minus, body) at over))

pub returns-clause-some : goal.returns-clause-some
returns-clause-some g c =
    let int = g.T.Number.int_type in
    let s = c.args.s.now in
    let signed : c.SIGNED.result ≡ int.signed = c.SIGNED.ensures ∙ sym g.met.T.Number.type_is.sign_is in
    let minus : c.take_sign-minus.result.0 ≡ (sign_of int.signed false s).minus = rw signed at c.take_sign-minus.ensures.minus in
    let body : c.take_sign-minus.result.1.now ≡ (sign_of int.signed false s).body = rw signed at c.take_sign-minus.ensures.body in
    let taken : length c.take_sign-minus.result.1.now + (sign_of int.signed false s).taken ≡ length s =
    rw signed at c.take_sign-minus.ensures.taken in
    let found = c.in_ok-magnitude.ensures.some in
    let len : c.in_ok-magnitude.len ≡ run_len decimal_table (sign_of int.signed false s).body = rw body at found.1 in
    rw (c.from_parts.ensures, minus)
    (prefix_found int g.met.T.Number.type_is.sized s c.in_ok-magnitude.magnitude
    (c.in_ok-magnitude.len + (length s - length c.take_sign-minus.result.1.now)) (omega (arith, found.0, len)) (rw body at found.2)
    (rw (c.greatest_magnitude.ensures.value, minus) at found.3) (omega (arith, len, taken)))
