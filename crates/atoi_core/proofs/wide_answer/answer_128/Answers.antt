-- Fewer than 39 digits spell less than a bound of 39 digits.
use Rattle.std.proofs.Common.{◌≡◌, ◌+◌, ◌*◌, ◌^◌, ◌<◌, ℕ, refl, ◌∙◌, arith}
use Rattle.std.proofs.lemmas.Bool.Decides.{nat_tests}
use Rattle.atoi_core.specs.Magnitude.{HasDigits}
use Rattle.atoi_core.proofs.lemmas.Readings.{below_bound}
use Rattle.atoi_core.proofs.wide_answer.answer_128.Goals as goal

fewer : (bound high more low power : ℕ) → HasDigits 39 bound → high * 10 ^ more + low < 10 ^ (32 + more) → power ≡ 10 ^ more → more < 7
    → (high * power + low < bound) × (high * power ≡ high * 10 ^ more)
fewer bound high more low power digits below is few = (rw is (below_bound 39 bound (32 + more) _ digits (omega arith) below), rw is refl)

pub overflow_mul-result : goal.overflow_mul-result
overflow_mul-result c =
    omega
    (arith, (fewer _ _ _ _ _ c.requires.digits c.requires.below (c.from-power.ensures ∙ c.power_of_ten.ensures.power) c.if-more-lt7.true).0)

pub overflow_add-result : goal.overflow_add-result
overflow_add-result c =
    let less =
    fewer _ _ _ _ _ c.requires.digits c.requires.below (c.from-power.ensures ∙ c.power_of_ten.ensures.power) c.if-more-lt7.true in
    omega (arith, less.0, c.from.ensures)

pub returns-then-more-lt7 : goal.returns-then-more-lt7
returns-then-more-lt7 c =
    let less =
    fewer _ _ _ _ _ c.requires.digits c.requires.below (c.from-power.ensures ∙ c.power_of_ten.ensures.power) c.if-more-lt7.true in
    grind (arith, nat_tests, less)
