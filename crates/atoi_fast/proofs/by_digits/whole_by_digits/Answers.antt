-- The run of the body decides, and the byte after it.
use Rattle.std.proofs.Common.{◌≡◌, ◌<◌, ◌≤◌, length, false, sym, ◌∙◌, arith}
use Rattle.std.proofs.lemmas.Bool.Decides.{nat_tests}
use Rattle.atoi_core.specs.Digit.{decimal_table}
use Rattle.atoi_core.specs.Run.{run_len, run, value}
use Rattle.atoi_core.specs.Sign.{sign_of}
use Rattle.atoi_core.specs.IntType.{limit_of}
use Rattle.atoi_fast.proofs.lemmas.ByDigits.{whole_found, whole_refused, whole_too_long, whole_followed}
use Rattle.atoi_fast.proofs.by_digits.whole_by_digits.Goals as goal

pub returns-in_err-magnitude-clause-none : goal.returns-in_err-magnitude-clause-none
returns-in_err-magnitude-clause-none g c =
    let int = g.T.Number.int_type in
    let s = c.args.s.now in
    let sign = sign_of int.signed c.args.skip_plus s in
    let signed : c.SIGNED.result ≡ int.signed = c.SIGNED.ensures ∙ sym g.met.T.Number.type_is.sign_is in
    let minus : c.take_sign-minus.result.0 ≡ sign.minus = rw signed at c.take_sign-minus.ensures.minus in
    let body : c.take_sign-minus.result.1.now ≡ sign.body = rw signed at c.take_sign-minus.ensures.body in
    let over : 0 < run_len decimal_table c.take_sign-minus.result.1.now
    → c.greatest_magnitude.result < value decimal_table (run decimal_table c.take_sign-minus.result.1.now) =
    c.in_err-magnitude.ensures.none in
    rw c.from_residual.ensures
    (whole_refused int g.met.T.Number.type_is.sized s c.args.skip c.args.skip_plus
    (rw (c.greatest_magnitude.ensures.value, minus, body) at over))

pub returns-then-len-body-clause-none : goal.returns-then-len-body-clause-none
returns-then-len-body-clause-none g c =
    let int = g.T.Number.int_type in
    let s = c.args.s.now in
    let sign = sign_of int.signed c.args.skip_plus s in
    let signed : c.SIGNED.result ≡ int.signed = c.SIGNED.ensures ∙ sym g.met.T.Number.type_is.sign_is in
    let body : c.take_sign-minus.result.1.now ≡ sign.body = rw signed at c.take_sign-minus.ensures.body in
    let len : c.in_ok-magnitude.len ≡ run_len decimal_table sign.body = rw body at c.in_ok-magnitude.ensures.some.1 in
    let followed : c.in_ok-magnitude.len ≡ length sign.body → ⊥ = rw body at c.if-len-body.true in
    whole_followed int g.met.T.Number.type_is.sized s c.args.skip c.args.skip_plus (λ all. followed (len ∙ all))

pub returns-then-is_above_limit-clause-none : goal.returns-then-is_above_limit-clause-none
returns-then-is_above_limit-clause-none g c =
    let int = g.T.Number.int_type in
    let s = c.args.s.now in
    let sign = sign_of int.signed c.args.skip_plus s in
    let signed : c.SIGNED.result ≡ int.signed = c.SIGNED.ensures ∙ sym g.met.T.Number.type_is.sign_is in
    let body : c.take_sign-minus.result.1.now ≡ sign.body = rw signed at c.take_sign-minus.ensures.body in
    let len : c.in_ok-magnitude.len ≡ run_len decimal_table sign.body = rw body at c.in_ok-magnitude.ensures.some.1 in
    let above : (32 < int.bits) × (limit_of int < c.in_ok-magnitude.len) =
    grind (arith, nat_tests, c.is_above_limit.ensures, c.if-is_above_limit.true) in
    whole_too_long int g.met.T.Number.type_is.sized s c.args.skip c.args.skip_plus (grind (arith, nat_tests, c.if-not-skip.true))
    above.0 (omega (arith, len, above.1))

pub returns-clause-some : goal.returns-clause-some
returns-clause-some g c =
    let int = g.T.Number.int_type in
    let s = c.args.s.now in
    let sign = sign_of int.signed c.args.skip_plus s in
    let signed : c.SIGNED.result ≡ int.signed = c.SIGNED.ensures ∙ sym g.met.T.Number.type_is.sign_is in
    let minus : c.take_sign-minus.result.0 ≡ sign.minus = rw signed at c.take_sign-minus.ensures.minus in
    let body : c.take_sign-minus.result.1.now ≡ sign.body = rw signed at c.take_sign-minus.ensures.body in
    let found = c.in_ok-magnitude.ensures.some in
    let len : c.in_ok-magnitude.len ≡ run_len decimal_table sign.body = rw body at found.1 in
    let all : c.in_ok-magnitude.len ≡ length sign.body = rw body at c.if-len-body.false in
    let few : c.args.skip ≡ false → 32 < int.bits → c.in_ok-magnitude.len ≤ limit_of int =
    elim c.else-not-skip.branch [
      | goal.else-not-skip-via-then-not-skip+else-is_above_limit w ↦
          λ off wide. grind (arith, nat_tests, w.is_above_limit.ensures, w.if-is_above_limit.false)
      | goal.else-not-skip-via-else-not-skip w ↦ λ off wide. absurd (grind (arith, nat_tests, w.if-not-skip.false))
    ] in
    rw (c.from_parts.ensures, minus)
    (whole_found int g.met.T.Number.type_is.sized s c.args.skip c.args.skip_plus c.in_ok-magnitude.magnitude
    (omega (arith, found.0, len)) (omega (arith, len, all)) (rw body at found.2)
    (rw (c.greatest_magnitude.ensures.value, minus) at found.3) (λ off wide. omega (arith, len, few off wide)))
