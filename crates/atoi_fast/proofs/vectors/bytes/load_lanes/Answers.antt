-- 16 bytes are loaded at once, fewer than 8 in one word, and others in two.
use Rattle.std.proofs.Common.{ap, length, sym, ◌∙◌, arith}
use Rattle.std.proofs.lemmas.List.{take-append-le, take_all}
use Rattle.std.specs.Simd.Lanes.{digits_l}
use Rattle.atoi_core.specs.Words.{word_of}
use Rattle.atoi_core.proofs.lemmas.LoadedWords.{bytes}
use Rattle.atoi_fast.proofs.lemmas.Ends.{moved, to_start}
use Rattle.atoi_fast.proofs.lemmas.LaneWindows.{lanes-of_bytes}
use Rattle.atoi_fast.proofs.vectors.bytes.load_lanes.Goals as goal

pub returns : goal.returns
returns c =
    let s = c.args.s.now in
    elim c.match-first_chunk.branch [
      | goal.in-Some w ↦ w.result-is ∙ w.in-Some.ensures.cases.same ∙ sym (take-append-le 16 s _ w.in-Some.ensures.cases.enough)
      | goal.in-None w ↦
          w.result-is ∙ w.half.ensures ∙ ap (digits_l 256 16) (w.load_8.ensures ∙ ap word_of (take_all 8 s (omega arith)))
          ∙ lanes-of_bytes 16 s (bytes s (λ i. (c.type_inv.s i).fits)) (omega arith)
      | goal.in-None-2 w ↦
          w.result-is ∙ w.to_start.ensures ∙ ap (to_start (length s)) w.ends.ensures
          ∙ (moved s (omega arith) (omega (arith, w.in-None-2.ensures.cases))).0
    ]
