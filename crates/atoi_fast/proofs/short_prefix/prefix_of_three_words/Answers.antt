-- The digits of the second word follow those of the first, and those of the third follow both.
use Rattle.std.proofs.Common.{◌≡◌, ◌<◌, ◌≤◌, ◌+◌, ◌*◌, ◌^◌, ◌∙◌, if◌then◌else◌, take, refl, arith}
use Rattle.std.proofs.lemmas.Bool.Decides.{nat_tests}
use Rattle.atoi_core.specs.Digit.{decimal_table}
use Rattle.atoi_core.specs.Run.{run_len, value}
use Rattle.atoi_core.specs.Words.{low_bytes}
use Rattle.atoi_fast.specs.Short.{zero_for_minus}
use Rattle.atoi_fast.proofs.lemmas.SignedWords.{lowered_at_top}
use Rattle.atoi_fast.proofs.lemmas.ShortNumbers.{most_digits}
use Rattle.atoi_fast.proofs.lemmas.ShortPrefixes.{all_digits, joined_value, next_word_prefix, nineteen_digits}
use Rattle.atoi_fast.proofs.lemmas.WordRuns.{lowered_eight}
use Rattle.atoi_fast.proofs.short_prefix.prefix_of_three_words.Goals as goal
use Rattle.atoi_fast.proofs.short_prefix.prefix_of_three_words.Goals.{After-four_by_product-low}

pub sum_of-requires : goal.sum_of-requires
sum_of-requires g c =
    let all = all_digits c.args.minus c.args.s.now 8 (omega arith) (λ i. (c.type_inv.s i).fits) (omega arith) c.args.second
    c.requires.second (omega arith) in
    (lowered_eight c.args.second _ all refl).0

-- What two words spell.
sixteen : (g : _) (c : After-four_by_product-low g)
    → c.args.high * c.power_of_ten.result + c.sum_of.result ≡ value decimal_table (take 16 (zero_for_minus c.args.minus c.args.s.now))
sixteen g c =
    let r = c.requires in
    let second = c.args.second in
    let all : run_len decimal_table (low_bytes 8 second) ≡ 8 =
    all_digits c.args.minus c.args.s.now 8 (omega arith) (λ i. (c.type_inv.s i).fits) (omega arith) second r.second (omega arith) in
    let sum_is = c.sum_of.ensures.sum ∙ (lowered_eight second _ all refl).1 in
    rw c.power_of_ten.ensures.power
    (rw all at (joined_value c.args.minus c.args.s.now 8 (omega arith) (λ i. (c.type_inv.s i).fits) (omega arith) second
    r.second c.args.high c.sum_of.result r.high (rw all sum_is)))

pub four_by_product-low-requires-clause-halves : goal.four_by_product-low-requires-clause-halves
four_by_product-low-requires-clause-halves g c =
    (lowered_at_top c.leading_digits-more.result c.load_from-third.result _ (grind (arith, nat_tests, c.from.ensures)) (omega arith) refl).0

-- What all digits spell.
spelled : (g : _) (c : After-four_by_product-low g) → let more = c.leading_digits-more.result in
    let high = c.args.high * c.power_of_ten.result + c.sum_of.result in
    high * 10 ^ more + c.four_by_product-low.result ≡ value decimal_table (take (16 + more) (zero_for_minus c.args.minus c.args.s.now))
spelled g c =
    let more = c.leading_digits-more.result in
    let third = c.load_from-third.result in
    let few : more < 8 = grind (arith, nat_tests, c.from.ensures) in
    let low_is = c.four_by_product-low.ensures.sum ∙ (lowered_at_top more third _ (omega arith) (omega arith) refl).1 in
    rw (← c.leading_digits-more.ensures.len) at (joined_value c.args.minus c.args.s.now 16 (omega arith) (λ i. (c.type_inv.s i).fits)
    c.requires.full third c.load_from-third.ensures _ c.four_by_product-low.result (sixteen g c)
    (rw c.leading_digits-more.ensures.len at low_is))

below : (g : _) (c : After-four_by_product-low g)
    → (c.args.high * c.power_of_ten.result + c.sum_of.result) * 10 ^ c.leading_digits-more.result + c.four_by_product-low.result < 10 ^ 19
below g c =
    let limit : 16 + c.leading_digits-more.result ≤ 19 + (if c.args.minus then 1 else 0) = grind (arith, nat_tests, c.from.ensures) in
    rw spelled (nineteen_digits c.args.minus c.args.s.now _ limit)

pub overflow_mul-magnitude : goal.overflow_mul-magnitude
overflow_mul-magnitude g c =
    rw c.power_of_ten-2.ensures.power (omega (arith, below g (goal.at.overflow_mul-magnitude g c).After-four_by_product-low))

pub overflow_add-magnitude : goal.overflow_add-magnitude
overflow_add-magnitude g c =
    rw c.power_of_ten-2.ensures.power (omega (arith, below g (goal.at.overflow_add-magnitude g c).After-four_by_product-low))

pub number_in_range-requires-clause-most : goal.number_in_range-requires-clause-most
number_in_range-requires-clause-most g c =
    rw c.power_of_ten-2.ensures.power (omega (arith, below g (goal.at.number_in_range-requires-clause-most g c).After-four_by_product-low))

pub returns-clause-answer : goal.returns-clause-answer
returns-clause-answer g c =
    let r = c.requires in
    let int = g.T.Number.int_type in
    let more = c.leading_digits-more.result in
    let third = c.load_from-third.result in
    let wide : int.bits ≡ 64 = g.met.T.Number.type_is.bits_are ∙ r.wide in
    let few : more < 8 = grind (arith, nat_tests, c.from.ensures) in
    let limit : 16 + more ≤ most_digits int + (if c.args.minus then 1 else 0) = rw wide (grind (arith, nat_tests, c.from.ensures)) in
    let low_is = c.four_by_product-low.ensures.sum ∙ (lowered_at_top more third _ (omega arith) (omega arith) refl).1 in
    let in_range = rw c.power_of_ten-2.ensures.power at c.in_ok-number.ensures.in_range in
    let at_16 = next_word_prefix c.args.minus c.args.s.now 16 (omega arith) (λ i. (c.type_inv.s i).fits) r.full third
    c.load_from-third.ensures int (λ e. (g.met.T.Number.type_is.sign_is ∙ (r.minus e).0, (r.minus e).1)) (omega arith) in
    rw (c.in_ok-number.ensures.number, c.power_of_ten-2.ensures.power, c.leading_digits-more.ensures.len)
    (at_16 (c.args.high * c.power_of_ten.result + c.sum_of.result) _
    (sixteen g (goal.at.returns-clause-answer g c).After-four_by_product-low)
    (rw c.leading_digits-more.ensures.len at few) (rw c.leading_digits-more.ensures.len at limit)
    (rw c.leading_digits-more.ensures.len at low_is) (rw c.leading_digits-more.ensures.len at in_range))
