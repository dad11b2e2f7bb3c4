-- Each first piece ends with a line feed.
use Rattle.std.proofs.Common.{[], ◌∷◌, inr, refl}
use Rattle.atoi_vectors.proofs.callers.bad_lines.an_index_counts_the_lines_of_both_pieces.Goals as goal

pub first_bad_line-requires-2 : goal.first_bad_line-requires-2
first_bad_line-requires-2 g c = inr (49 ∷ 10 ∷ 43 ∷ 50 ∷ 13 ∷ [], refl)

pub first_bad_line-requires-3 : goal.first_bad_line-requires-3
first_bad_line-requires-3 g c = inr (49 ∷ 10 ∷ 120 ∷ [], refl)

pub first_bad_line-requires-4 : goal.first_bad_line-requires-4
first_bad_line-requires-4 g c = inr (49 ∷ 10 ∷ 50 ∷ [], refl)

pub first_bad_line-requires-6 : goal.first_bad_line-requires-6
first_bad_line-requires-6 g c = inr (49 ∷ 13 ∷ [], refl)
