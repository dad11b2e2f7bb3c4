-- All bytes are digits, with a zero for the minus.
use Rattle.std.proofs.Common.{◌≡◌, ◌∙◌, ◌*◌, ◌%◌, ◌^◌, ◌<◌, nat_eq, get_or, ◌&&◌, refl, sym, lit<, mod-lt, if◌then◌else◌, arith}
use Rattle.std.proofs.lemmas.Bool.Decides.{nat_tests}
use Rattle.std.specs.Int.Bits.{bit_xor, xor_lt}
use Rattle.atoi_core.specs.Digit.{decimal_table}
use Rattle.atoi_core.specs.Run.{run_len}
use Rattle.atoi_core.specs.Words.{low_bytes}
use Rattle.atoi_core.proofs.lemmas.WordFields.{repeated}
use Rattle.atoi_fast.proofs.lemmas.ShortNumbers.{if_in_range}
use Rattle.atoi_fast.proofs.lemmas.ShortSlices.{short_whole}
use Rattle.atoi_fast.proofs.lemmas.WordRuns.{flipped_lowered, lowered_eight}
use Rattle.atoi_fast.proofs.short_slice.short_slice.Goals as goal

pub sum_of-requires : goal.sum_of-requires
sum_of-requires g c =
    let flipped = bit_xor c.load_flipped.result (c.factor_of.result * (0x1D * c.from.result) % 2 ^ 64) in
    let fits : flipped < 2 ^ 64 = xor_lt 64 _ _ c.load_flipped.type_inv (mod-lt _ (lit< tt)) in
    let full : run_len decimal_table (low_bytes 8 (bit_xor flipped (repeated 48 8))) ≡ 8 =
    sym c.leading_digits_flipped.ensures.len ∙ c.if-leading_digits_flipped-ne8.false in
    (lowered_eight _ _ full (flipped_lowered flipped fits full)).0

pub returns : goal.returns
returns g c =
    let minus = c.SIGNED.result && nat_eq (get_or c.args.s.now 0 0) 45 in
    let int = g.T.Number.int_type in
    let flipped = bit_xor c.load_flipped.result (c.factor_of.result * (0x1D * c.from.result) % 2 ^ 64) in
    let fits : flipped < 2 ^ 64 = xor_lt 64 _ _ c.load_flipped.type_inv (mod-lt _ (lit< tt)) in
    let full : run_len decimal_table (low_bytes 8 (bit_xor flipped (repeated 48 8))) ≡ 8 =
    sym c.leading_digits_flipped.ensures.len ∙ c.if-leading_digits_flipped-ne8.false in
    let back : c.from.result ≡ (if minus then 1 else 0) = grind (arith, nat_tests, c.from.ensures) in
    if_in_range g.T.Number.number int c.args.s.now minus c.sum_of.result c.number_in_range.result
    c.number_in_range.ensures.in_range c.number_in_range.ensures.number
    (short_whole minus c.args.s.now c.requires.some c.requires.few (λ i. (c.type_inv.s i).fits) (λ e. grind (arith, nat_tests))
    c.load_flipped.result c.factor_of.result c.from.result flipped c.load_flipped.ensures c.factor_of.ensures back refl full
    int c.sum_of.result (λ e. g.met.T.Number.type_is.sign_is ∙ grind (arith, nat_tests, c.SIGNED.ensures))
    (c.sum_of.ensures.sum ∙ (lowered_eight _ _ full (flipped_lowered flipped fits full)).1))
