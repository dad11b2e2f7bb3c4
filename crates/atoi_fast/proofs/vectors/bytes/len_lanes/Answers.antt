-- If each lane is a digit, the mask is 0.
use Rattle.std.proofs.Common.{inl, inr, sym, eq-zero-or-pos}
use Rattle.atoi_fast.proofs.vectors.bytes.len_lanes.Goals as goal

pub returns-clause-len : goal.returns-clause-len
unfolding lib.Count.count_trailing_zeros
returns-clause-len c =
    let e = c.non_digits.ensures in
    elim (eq-zero-or-pos c.non_digits.result) [ inl none ↦ rw none (sym (e.none none)) | inr some ↦ e.some some ]
