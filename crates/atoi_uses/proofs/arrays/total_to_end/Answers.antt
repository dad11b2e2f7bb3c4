-- Each number is added once, and nothing else can follow it.
use Rattle.std.proofs.Common.{◌≡◌, ◌<◌, ◌^◌, ◌∷◌, ◌++◌, length, ℤ, pos, ◌+ℤ◌, FitsSigned, to_z, of_z, w64, ap, ◌∙◌, arith, rules}
use Rattle.std.specs.Int.{w128}
use Rattle.std.proofs.lemmas.Int.{ints}
use Rattle.atoi_uses.specs.Arrays.{last}
use Rattle.atoi_uses.proofs.lemmas.Arrays.{IsNotLast, no_number, others_follow, read_more}
use Rattle.atoi_uses.proofs.arrays.total_to_end.Goals as goal

pub loop-number-init : goal.loop-number-init
loop-number-init c = record {
  adds = λ others rest has. let same : pos 0 +ℤ others ≡ others = omega (arith, ints) in rw same has;
  others = λ sum rest has. (sum, has);
  count = 0;
  within = omega arith;
  above = omega (arith, ints);
  below = omega (arith, ints);
}

pub returns-in_err-number-clause-none : goal.returns-in_err-number-clause-none
returns-in_err-number-clause-none c = rw c.from_residual.ensures (λ total rest has.
    no_number c.in_err-number.ensures.none (c.loop-number.invariant.others total rest has).1)

pub returns-in-Some-clause-some : goal.returns-in-Some-clause-some
returns-in-Some-clause-some c =
    let number : ℤ = c.in_ok-number.number in
    let total : ℤ = to_z w128 c.loop-number.total-bits in
    let read = c.loop-number.invariant in
    let json = c.in_ok-number.ensures.some in
    let fits : FitsSigned w64 number = search rules in
    let value : c.from.result ≡ number = search rules in
    let few : length c.args.text.now < 2 ^ 64 = search rules in
    let sum : to_z w128 (of_z w128 (total +ℤ to_z w128 (of_z w128 c.from.result))) ≡ total +ℤ number =
    omega (arith, ints, read.above, read.below, read.within) in
    let parts = json.parts ∙ ap (λ tail. json.bytes ++ tail) c.in-Some.ensures.some in
    rw sum (read.adds number c.in-Some.rest.now (last json.bytes json.written parts))

pub returns-in_err-strip_byte-clause-none : goal.returns-in_err-strip_byte-clause-none
returns-in_err-strip_byte-clause-none c = rw c.from_residual-in_err-strip_byte.ensures (λ total rest has.
    let is : IsNotLast c.loop-number.left.now c.in_ok-number.number c.in_ok-number.tail.now =
    record { only = c.in_ok-number.ensures.only; no_end = c.in_default.ensures.none } in
    let found = others_follow is (c.loop-number.invariant.others total rest has).1 in
    c.in_err-strip_byte.ensures.none _ found.1.1.0)

pub returns-in_err-left-clause-none : goal.returns-in_err-left-clause-none
returns-in_err-left-clause-none c = rw c.from_residual-in_err-left.ensures (λ total rest has.
    let is : IsNotLast c.loop-number.left.now c.in_ok-number.number c.in_ok-number.tail.now =
    record { only = c.in_ok-number.ensures.only; no_end = c.in_default.ensures.none } in
    let found = others_follow is (c.loop-number.invariant.others total rest has).1 in
    c.in_err-left.ensures.none found.1.0 (cc (c.in_ok-strip_byte.ensures.some, found.1.1.0)))

pub loop-number-preserved : goal.loop-number-preserved
loop-number-preserved c =
    let number : ℤ = c.in_ok-number.number in
    let total : ℤ = to_z w128 c.loop-number.total-bits in
    let read = c.loop-number.invariant in
    let fits : FitsSigned w64 number = search rules in
    let value : c.from.result ≡ number = search rules in
    let few : length c.args.text.now < 2 ^ 64 = search rules in
    let sum : to_z w128 (of_z w128 (total +ℤ to_z w128 (of_z w128 c.from.result))) ≡ total +ℤ number =
    omega (arith, ints, read.above, read.below, read.within) in
    let is : IsNotLast c.loop-number.left.now c.in_ok-number.number c.in_ok-number.tail.now =
    record { only = c.in_ok-number.ensures.only; no_end = c.in_default.ensures.none } in
    let comma = c.in_ok-strip_byte.ensures.some ∙ ap (λ tail. 44 ∷ tail) c.in_ok-left.ensures.some in
    rw sum (read_more read c.in_ok-number.ensures.some fits is c.in_ok-left.left.now comma)
