-- The first and the last four bytes join to the word of all.
use Rattle.std.proofs.Common.{take, drop, length, ◌<◌, ◌-◌, ◌∙◌, sym, ap, arith}
use Rattle.std.proofs.lemmas.List.{take_all, length-take, length-drop}
use Rattle.std.specs.Int.{from_le_bytes, w32}
use Rattle.atoi_core.specs.Words.{word_of}
use Rattle.atoi_core.proofs.lemmas.LoadedWords.{word_from_four, halves_joined}
use Rattle.atoi_core.proofs.words.load_8.Goals as goal

pub returns-in-Some-Some : goal.returns-in-Some-Some
returns-in-Some-Some c =
    let s = c.args.s.now in
    let short : length s < 8 = grind arith in
    let first = c.in-Some-Some.ensures.cases in
    let last = c.in-Some-Some.ensures'.cases in
    halves_joined s c.from-low.result c.from.result last.0 short (λ i. (c.type_inv.s i).fits)
    (c.from-low.ensures ∙ c.from_le_bytes-in-Some-Some.ensures ∙ ap (from_le_bytes w32) first.same
    ∙ word_from_four (take 4 s) (omega (arith, length-take 4 s)))
    (c.from.ensures ∙ c.from_le_bytes-in-Some-Some-2.ensures ∙ ap (from_le_bytes w32) last.1.same
    ∙ word_from_four (drop (length s - 4) s) (omega (arith, length-drop (length s - 4) s)))
    (omega (arith, c.from-low.ensures, c.from_le_bytes-in-Some-Some.type_inv))
    (omega (arith, c.from.ensures, c.from_le_bytes-in-Some-Some-2.type_inv))
    ∙ ap word_of (sym (take_all 8 s (omega arith)))
