-- The first mark says how many digits the word begins with.
use Rattle.std.proofs.Common.{ℕ, ◌<◌, get_or, ◌∙◌, false, refl, arith, add-zero}
use Rattle.atoi_core.proofs.lemmas.LoweredWords.{marks_of_8}
use Rattle.atoi_fast.proofs.lemmas.ShortNumbers.{least_bound}
use Rattle.atoi_fast.proofs.lemmas.ShortPrefixes.{unsigned_word_prefix, zeroed_run, zeroed_value}
use Rattle.atoi_fast.proofs.lemmas.SignedWords.{run_of_one, run_of_two, run_of_three, run_of_more, value_of_one, value_of_two, value_of_three}
use Rattle.atoi_fast.proofs.lemmas.WordRuns.{lowered_eight, none_marked}
use Rattle.atoi_fast.proofs.short_prefix.prefix_by_length.Goals as goal

pub from_parts-requires-clause-in_range : goal.from_parts-requires-clause-in_range
from_parts-requires-clause-in_range g c =
    let run = run_of_one c.load_full-word.result c.if-marks-ne0.false c.if-marks-ne0-2.true in
    omega (
      arith,
      value_of_one c.load_full-word.result (omega (arith, run)),
      least_bound g.W.Number.int_type g.met.W.Number.type_is.sized false,
      c.from.ensures,
      c.from-first.ensures,
      c.lowest_byte.ensures,
    )

pub returns-then-marks-ne0-2 : goal.returns-then-marks-ne0-2
returns-then-marks-ne0-2 g c =
    let word = c.load_full-word.result in
    let int = g.T.Number.int_type in
    let run = run_of_one word c.if-marks-ne0.false c.if-marks-ne0-2.true in
    let value = value_of_one word (omega (arith, run)) in
    rw c.from_parts.ensures
    (unsigned_word_prefix int c.args.s.now (omega arith) (λ i. (c.type_inv.s i).fits) word 1 _ c.load_full-word.ensures (omega (arith, run))
    (omega arith) (omega arith) (omega (arith, value, c.from.ensures, c.from-first.ensures, c.lowest_byte.ensures))
    (omega (arith, value, least_bound int g.met.T.Number.type_is.sized false, c.from.ensures, c.from-first.ensures, c.lowest_byte.ensures)))

pub from_parts-requires-then-marks-ne0-3-clause-in_range : goal.from_parts-requires-then-marks-ne0-3-clause-in_range
from_parts-requires-then-marks-ne0-3-clause-in_range g c =
    let run = run_of_two c.load_full-word.result c.if-marks-ne0-2.false c.if-marks-ne0-3.true in
    omega (
      arith,
      value_of_two c.load_full-word.result (omega (arith, run)),
      least_bound g.W.Number.int_type g.met.W.Number.type_is.sized false,
      c.from-then-marks-ne0-3.ensures,
      c.from-first.ensures,
      c.from-2.ensures,
      c.lowest_byte.ensures,
      c.lowest_byte-2.ensures,
    )

pub returns-then-marks-ne0-3 : goal.returns-then-marks-ne0-3
returns-then-marks-ne0-3 g c =
    let word = c.load_full-word.result in
    let int = g.T.Number.int_type in
    let run = run_of_two word c.if-marks-ne0-2.false c.if-marks-ne0-3.true in
    let value = value_of_two word (omega (arith, run)) in
    rw c.from_parts-then-marks-ne0-3.ensures
    (unsigned_word_prefix int c.args.s.now (omega arith) (λ i. (c.type_inv.s i).fits) word 2 _ c.load_full-word.ensures (omega (arith, run))
    (omega arith) (omega arith)
    (omega (
      arith,
      value,
      c.from-then-marks-ne0-3.ensures,
      c.from-first.ensures,
      c.from-2.ensures,
      c.lowest_byte.ensures,
      c.lowest_byte-2.ensures,
    ))
    (omega (
      arith,
      value,
      least_bound int g.met.T.Number.type_is.sized false,
      c.from-then-marks-ne0-3.ensures,
      c.from-first.ensures,
      c.from-2.ensures,
      c.lowest_byte.ensures,
      c.lowest_byte-2.ensures,
    )))

pub returns-then-marks-ne0-4 : goal.returns-then-marks-ne0-4
returns-then-marks-ne0-4 g c =
    let word = c.load_full-word.result in
    let run = run_of_three word c.if-marks-ne0-3.false c.if-marks-ne0-4.true in
    let value = value_of_three word (omega (arith, run)) in
    rw c.in_ok-number.ensures.number
    (unsigned_word_prefix g.T.Number.int_type c.args.s.now (omega arith) (λ i. (c.type_inv.s i).fits) word 3 _ c.load_full-word.ensures
    (omega (arith, run)) (omega arith) (omega arith)
    (omega (
      arith,
      value,
      c.from-first.ensures,
      c.from-2.ensures,
      c.from-then-marks-ne0-4.ensures,
      c.lowest_byte.ensures,
      c.lowest_byte-2.ensures,
      c.lowest_byte-then-marks-ne0-4.ensures,
    ))
    c.in_ok-number.ensures.in_range)

pub sum_of-requires : goal.sum_of-requires
sum_of-requires g c = (lowered_eight c.load_full-word.result _ (none_marked c.load_full-word.result c.if-marks-eq0.true) refl).0

pub long_prefix-number-requires-clause-full : goal.long_prefix-number-requires-clause-full
long_prefix-number-requires-clause-full g c =
    let word = c.load_full-word.result in
    let fits : (i : ℕ) → get_or c.args.s.now i 0 < 256 = λ i. (c.type_inv.s i).fits in
    let run = zeroed_run false c.args.s.now (omega arith) fits word c.load_full-word.ensures (λ no. absurd (cc no)) in
    omega (arith, rw add-zero at run, none_marked word c.if-marks-eq0.true)

pub long_prefix-number-requires-clause-high : goal.long_prefix-number-requires-clause-high
long_prefix-number-requires-clause-high g c =
    let word = c.load_full-word.result in
    let full = none_marked word c.if-marks-eq0.true in
    let fits : (i : ℕ) → get_or c.args.s.now i 0 < 256 = λ i. (c.type_inv.s i).fits in
    let value = zeroed_value false c.args.s.now (omega arith) fits word c.load_full-word.ensures (λ no. absurd (cc no))
    8 (rw add-zero (omega (arith, full))) in
    c.sum_of.ensures.sum ∙ (lowered_eight word _ full refl).1 ∙ (rw add-zero at value)

pub prefix_in_word-requires-clause-some : goal.prefix_in_word-requires-clause-some
prefix_in_word-requires-clause-some g c = omega (arith, run_of_more c.load_full-word.result c.if-marks-ne0-4.false)

pub prefix_in_word-requires-clause-len : goal.prefix_in_word-requires-clause-len
prefix_in_word-requires-clause-len g c = marks_of_8 c.load_full-word.result
