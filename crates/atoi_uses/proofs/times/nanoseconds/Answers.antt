-- What `digits_between` finds are all the digits.
use Rattle.std.proofs.Common.{◌≡◌, ◌<◌, ◌-◌, ◌*◌, ◌^◌, [], ◌++◌, false, pos, length, refl, sym, ap, ◌∙◌, append-nil, arith, rules}
use Rattle.std.specs.Str.Parse.{digits_value}
use Rattle.atoi_simd.specs.IntType.{u32_type}
use Rattle.atoi_simd.specs.Text.{DigitsWrite}
use Rattle.atoi_uses.proofs.lemmas.Times.{at_end, billionths_fit, fit}
use Rattle.atoi_uses.proofs.times.nanoseconds.Goals as goal

pub returns-in_default-clause-none : goal.returns-in_default-clause-none
returns-in_default-clause-none c = λ any are.
    let digits = c.args.digits.now in
    let written : DigitsWrite u32_type false digits (pos (digits_value 10 digits)) =
    record { numeral = are.numeral; in_range = omega (arith, fit digits are.numeral are.at_most_nine); value_is = refl } in
    c.in_default.ensures.none (pos (digits_value 10 digits)) digits [] written
    (at_end digits are.numeral are.at_most_nine) (sym (append-nil digits))

pub returns-else-is_empty-clause-none : goal.returns-else-is_empty-clause-none
returns-else-is_empty-clause-none c = λ any are.
    let digits = c.args.digits.now in
    let written : DigitsWrite u32_type false digits (pos (digits_value 10 digits)) =
    record { numeral = are.numeral; in_range = omega (arith, fit digits are.numeral are.at_most_nine); value_is = refl } in
    let same = c.in-Some.ensures.only (pos (digits_value 10 digits)) digits []
    written (at_end digits are.numeral are.at_most_nine) (sym (append-nil digits)) in
    let rest_is = sym same.1 in search rules

pub overflow_mul-result : goal.overflow_mul-result
overflow_mul-result c =
    let has = c.in-Some.ensures.some in
    let empty : c.in-Some.rest.now ≡ [] = search rules in
    let whole : c.args.digits.now ≡ has.digits = has.parts ∙ ap (λ rest. has.digits ++ rest) empty ∙ append-nil has.digits in
    let power : c.pow.result ≡ 10 ^ (9 - length has.digits) = c.pow.ensures ∙ ap (λ bytes. 10 ^ (9 - length bytes)) whole in
    let value : c.in-Some.number ≡ digits_value 10 has.digits = search rules in
    let product : c.in-Some.number * c.pow.result < 4294967296 =
    rw (power, value) (omega (arith, billionths_fit has.digits has.written.numeral has.leading.at_most)) in
    search rules
