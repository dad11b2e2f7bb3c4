-- The bytes of a short slice, and zeros in the others' place.
use Rattle.std.proofs.Common.{◌≡◌, ◌+◌, ◌-◌, ◌++◌, length, take, drop, replicate, sym, ap, ◌∙◌, arith}
use Rattle.std.proofs.Math.Seq.{take-append-add}
use Rattle.std.proofs.lemmas.List.{drop-replicate, take-replicate}
use Rattle.atoi_lanes.proofs.kernels.first_bytes.Goals as goal

pub returns-in-None : goal.returns-in-None
returns-in-None c0 c =
    let n = c0.row.N in
    let s = c.args.s.now in
    let missing = n - length s in
    let whole : length s + missing ≡ n = omega (arith, c.in-None.ensures.cases) in
    ap (λ l. l ++ drop (length s) (replicate n 0)) c.copy_from_slice.ensures.after
    ∙ ap (λ l. s ++ l) (drop-replicate (length s) n 0 ∙ sym (take-replicate missing n 0 (omega arith)))
    ∙ sym (take-append-add s (replicate n 0) missing)
    ∙ ap (λ k. take k (s ++ replicate n 0)) whole
