-- The marks say how long the run is, also after a minus.
use Rattle.std.proofs.Common.{◌≡◌, ◌≤◌, ◌<◌, ◌+◌, ◌*◌, ◌/◌, ◌%◌, ◌^◌, ◌∙◌, ◌&&◌, true, nat_eq, take, sym, if◌then◌else◌, refl, arith, rules}
use Rattle.std.proofs.lemmas.Bool.Decides.{nat_tests}
use Rattle.std.specs.Int.Count.{count_trailing_zeros}
use Rattle.atoi_core.proofs.lemmas.LoweredWords.{without_48}
use Rattle.std.specs.Int.Bits.{bit_and}
use Rattle.atoi_core.specs.Digit.{decimal_table}
use Rattle.atoi_core.specs.Run.{run_len, value}
use Rattle.atoi_core.specs.Words.{low_bytes, low_value}
use Rattle.atoi_fast.specs.Short.{HasMinus, zero_for_minus}
use Rattle.atoi_fast.proofs.lemmas.WordRuns.{lowered_eight}
use Rattle.atoi_fast.proofs.lemmas.SignedWords.{marks_after_first, IsSigned, to_signed, signed_run, signed_run_full, lowered_at_top}
use Rattle.atoi_fast.proofs.lemmas.ShortPrefixes.{one_word_prefix, has_minus, zeroed_run, zeroed_value}
use Rattle.atoi_fast.proofs.short_prefix.prefix_by_calls.Goals as goal
use Rattle.atoi_fast.proofs.short_prefix.prefix_by_calls.Goals.{Else-lowest_byte-gt9}

known : (g : _) (c : Else-lowest_byte-gt9 g) → let word = c.load_full-word.result in
    IsSigned (g.W.Number.SIGNED && nat_eq c.lowest_byte.result 45) word (((word + without_48 8) % 2 ^ 64 + 3 * c.from.result) % 2 ^ 64)
known g c =
    let minus = g.W.Number.SIGNED && nat_eq c.lowest_byte.result 45 in
    let back : 3 * c.from.result ≡ (if minus then 3 else 0) = grind (arith, nat_tests, c.from.ensures) in
    to_signed minus c.load_full-word.result (3 * c.from.result) _ (λ e. grind (arith, nat_tests)) back refl (omega arith)
    c.if-marks-ne0.false

has_sign : (g : _) (c : Else-lowest_byte-gt9 g) → let minus = g.W.Number.SIGNED && nat_eq c.lowest_byte.result 45 in
    minus ≡ true → HasMinus g.W.Number.SIGNED c.args.s.now
has_sign g c =
    has_minus _ c.args.s.now (omega arith) (λ i. (c.type_inv.s i).fits) _ c.load_full-word.ensures (known g c).is_minus
    g.W.Number.SIGNED (λ e. grind (arith, nat_tests))

is_full : (g : _) (c : Else-lowest_byte-gt9 g) → marks_after_first c.load_full-word.result ≡ 0
    → 8 ≤ run_len decimal_table (zero_for_minus (g.W.Number.SIGNED && nat_eq c.lowest_byte.result 45) c.args.s.now)
is_full g c none =
    let signed = known g c in
    let run = zeroed_run _ c.args.s.now (omega arith) (λ i. (c.type_inv.s i).fits) _ c.load_full-word.ensures signed.is_minus in
    omega (arith, run, signed_run_full signed none)

high_is : (g : _) (c : Else-lowest_byte-gt9 g) → marks_after_first c.load_full-word.result ≡ 0
    → let digits = ((c.load_full-word.result + without_48 8) % 2 ^ 64 + 3 * c.from.result) % 2 ^ 64 in
    (bit_and digits 0x0F0F_0F0F_0F0F_0F0F ≡ digits)
    × (low_value (low_bytes 8 digits)
    ≡ value decimal_table (take 8 (zero_for_minus (g.W.Number.SIGNED && nat_eq c.lowest_byte.result 45) c.args.s.now)))
high_is g c none =
    let signed = known g c in
    let full = signed_run_full signed none in
    let lowered = lowered_eight _ _ full signed.digits_are in (
      lowered.0,
      lowered.1
          ∙ zeroed_value _ c.args.s.now (omega arith) (λ i. (c.type_inv.s i).fits) _ c.load_full-word.ensures signed.is_minus 8 (omega arith),
    )

pub long_by_digits-number-requires-clause-minus : goal.long_by_digits-number-requires-clause-minus
long_by_digits-number-requires-clause-minus g c =
    rw c.SIGNED.ensures (has_sign g (goal.at.long_by_digits-number-requires-clause-minus g c).Else-lowest_byte-gt9)

pub long_by_digits-number-requires-clause-full : goal.long_by_digits-number-requires-clause-full
long_by_digits-number-requires-clause-full g c =
    rw c.SIGNED.ensures (is_full g (goal.at.long_by_digits-number-requires-clause-full g c).Else-lowest_byte-gt9 c.if-marks-eq0.true)

pub long_by_digits-number-requires-clause-halves : goal.long_by_digits-number-requires-clause-halves
long_by_digits-number-requires-clause-halves g c =
    (high_is g (goal.at.long_by_digits-number-requires-clause-halves g c).Else-lowest_byte-gt9 c.if-marks-eq0.true).0

pub long_by_digits-number-requires-clause-high : goal.long_by_digits-number-requires-clause-high
long_by_digits-number-requires-clause-high g c =
    rw c.SIGNED.ensures (high_is g (goal.at.long_by_digits-number-requires-clause-high g c).Else-lowest_byte-gt9 c.if-marks-eq0.true).1

pub value_by_product-requires-clause-halves : goal.value_by_product-requires-clause-halves
value_by_product-requires-clause-halves g c =
    let signed = known g (goal.at.value_by_product-requires-clause-halves g c).Else-lowest_byte-gt9 in
    let few : count_trailing_zeros 64 (marks_after_first c.load_full-word.result) / 8 < 8 = search rules in
    (lowered_at_top _ _ _ (omega arith) (omega (arith, signed_run signed)) signed.digits_are).0

pub returns : goal.returns
returns g c =
    let minus = g.W.Number.SIGNED && nat_eq c.lowest_byte.result 45 in
    let word = c.load_full-word.result in
    let signed = known g (goal.at.returns g c).Else-lowest_byte-gt9 in
    let run = signed_run signed in
    let few : count_trailing_zeros 64 (marks_after_first word) / 8 < 8 = search rules in
    let sign : (if minus then 1 else 0) ≤ 1 = grind (arith, nat_tests) in
    let number_is = c.value_by_product.ensures.sum
    ∙ (lowered_at_top _ _ _ (omega arith) (omega (arith, run)) signed.digits_are).1 in
    rw (c.in_ok-number.ensures.number, c.SIGNED.ensures)
    (one_word_prefix minus c.args.s.now (omega arith) (λ i. (c.type_inv.s i).fits) word c.load_full-word.ensures signed.is_minus
    g.T.Number.int_type _ _ (λ e. g.met.T.Number.type_is.sign_is ∙ sym c.requires.sign ∙ grind (arith, nat_tests)) run.0
    (omega (arith, run)) few number_is (rw c.SIGNED.ensures at c.in_ok-number.ensures.in_range))
