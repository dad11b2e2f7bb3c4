-- The marks say how long the run is, also after a minus.
use Rattle.std.proofs.Common.{◌≡◌, ◌≤◌, ◌<◌, ◌+◌, ◌*◌, ◌/◌, ◌%◌, ◌^◌, ◌∙◌, ◌&&◌, false, nat_eq, if◌then◌else◌, refl, arith, rules}
use Rattle.std.proofs.lemmas.Bool.Decides.{nat_tests}
use Rattle.std.specs.Int.Count.{count_trailing_zeros}
use Rattle.atoi_core.proofs.lemmas.LoweredWords.{without_48}
use Rattle.atoi_core.specs.IntType.{bound_of}
use Rattle.atoi_fast.proofs.lemmas.ShortNumbers.{least_bound}
use Rattle.atoi_fast.proofs.lemmas.WordRuns.{lowered_eight}
use Rattle.atoi_fast.proofs.lemmas.SignedWords.{marks_after_first, IsSigned, to_signed, signed_run, signed_run_full, lowered_at_top}
use Rattle.atoi_fast.proofs.lemmas.ShortPrefixes.{one_digit_prefix, one_word_prefix, has_minus, zeroed_run, zeroed_value}
use Rattle.atoi_fast.proofs.short_prefix.prefix_of_words.Goals as goal
use Rattle.atoi_fast.proofs.short_prefix.prefix_of_words.Goals.{Else-lowest_byte-gt9}

-- What the tests say of the word.
known : (g : _) (c : Else-lowest_byte-gt9 g) → let word = c.load_full-word.result in
    IsSigned (g.T.Number.SIGNED && nat_eq c.lowest_byte.result 45) word (((word + without_48 8) % 2 ^ 64 + 3 * c.from-2.result) % 2 ^ 64)
known g c =
    let minus = g.T.Number.SIGNED && nat_eq c.lowest_byte.result 45 in
    let back : 3 * c.from-2.result ≡ (if minus then 3 else 0) = grind (arith, nat_tests, c.from-2.ensures) in
    to_signed minus c.load_full-word.result (3 * c.from-2.result) _ (λ e. grind (arith, nat_tests)) back refl (omega arith)
    c.if-marks-ne0.false

pub sum_of-requires : goal.sum_of-requires
sum_of-requires g c =
    let signed = known g (goal.at.sum_of-requires g c).Else-lowest_byte-gt9 in
    (lowered_eight _ _ (signed_run_full signed c.if-marks-eq0.true) signed.digits_are).0

pub prefix_of_two_words-requires-clause-minus : goal.prefix_of_two_words-requires-clause-minus
prefix_of_two_words-requires-clause-minus g c =
    let signed = known g (goal.at.prefix_of_two_words-requires-clause-minus g c).Else-lowest_byte-gt9 in
    rw c.SIGNED.ensures
    (has_minus _ c.args.s.now (omega arith) (λ i. (c.type_inv.s i).fits) _ c.load_full-word.ensures signed.is_minus
    g.T.Number.SIGNED (λ e. grind (arith, nat_tests)))

pub prefix_of_two_words-requires-clause-full : goal.prefix_of_two_words-requires-clause-full
prefix_of_two_words-requires-clause-full g c =
    let signed = known g (goal.at.prefix_of_two_words-requires-clause-full g c).Else-lowest_byte-gt9 in
    let run = zeroed_run _ c.args.s.now (omega arith) (λ i. (c.type_inv.s i).fits) _ c.load_full-word.ensures signed.is_minus in
    rw c.SIGNED.ensures (omega (arith, run, signed_run_full signed c.if-marks-eq0.true))

pub prefix_of_two_words-requires-clause-high : goal.prefix_of_two_words-requires-clause-high
prefix_of_two_words-requires-clause-high g c =
    let signed = known g (goal.at.prefix_of_two_words-requires-clause-high g c).Else-lowest_byte-gt9 in
    let full = signed_run_full signed c.if-marks-eq0.true in
    rw c.SIGNED.ensures
    (c.sum_of.ensures.sum ∙ (lowered_eight _ _ full signed.digits_are).1
    ∙ zeroed_value _ c.args.s.now (omega arith) (λ i. (c.type_inv.s i).fits) _ c.load_full-word.ensures signed.is_minus 8 (omega arith))

pub value_by_product-requires-clause-halves : goal.value_by_product-requires-clause-halves
value_by_product-requires-clause-halves g c =
    let signed = known g (goal.at.value_by_product-requires-clause-halves g c).Else-lowest_byte-gt9 in
    let few : count_trailing_zeros 64 (marks_after_first c.load_full-word.result) / 8 < 8 = search rules in
    (lowered_at_top _ _ _ (omega arith) (omega (arith, signed_run signed)) signed.digits_are).0

pub returns-clause-answer : goal.returns-clause-answer
returns-clause-answer g c =
    let minus = g.T.Number.SIGNED && nat_eq c.lowest_byte.result 45 in
    let word = c.load_full-word.result in
    let signed = known g (goal.at.returns-clause-answer g c).Else-lowest_byte-gt9 in
    let run = signed_run signed in
    let few : count_trailing_zeros 64 (marks_after_first word) / 8 < 8 = search rules in
    let sign : (if minus then 1 else 0) ≤ 1 = grind (arith, nat_tests) in
    let number_is = c.value_by_product.ensures.sum
    ∙ (lowered_at_top _ _ _ (omega arith) (omega (arith, run)) signed.digits_are).1 in
    rw (c.in_ok-number.ensures.number, c.SIGNED.ensures)
    (one_word_prefix minus c.args.s.now (omega arith) (λ i. (c.type_inv.s i).fits) word c.load_full-word.ensures signed.is_minus
    g.T.Number.int_type _ _ (λ e. g.met.T.Number.type_is.sign_is ∙ grind (arith, nat_tests)) run.0 (omega (arith, run)) few number_is
    (rw c.SIGNED.ensures at c.in_ok-number.ensures.in_range))

pub returns-then-marks-ne0-clause-answer : goal.returns-then-marks-ne0-clause-answer
returns-then-marks-ne0-clause-answer g c =
    let int = g.T.Number.int_type in
    let in_range : c.lowest_byte-digit.result ≤ bound_of int false = omega (arith, least_bound int g.met.T.Number.type_is.sized false) in
    rw (c.from_parts.ensures, c.from.ensures)
    (one_digit_prefix int c.args.s.now (omega arith) (λ i. (c.type_inv.s i).fits) c.load_full-word.result c.lowest_byte-digit.result
    c.load_full-word.ensures c.lowest_byte-digit.ensures (omega arith) c.if-marks-ne0.true in_range)
