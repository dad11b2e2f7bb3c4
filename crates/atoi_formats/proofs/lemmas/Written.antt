-- Two texts that a formatter writes are written as one.
use Rattle.std.proofs.Common.{List, ℕ, [], ◌∷◌, ◌++◌, subst, sym, ◌∙◌}
use Rattle.std.proofs.lemmas.List.Folds.{concat-append}
use Rattle.std.specs.Fmt.{HasWrittenStyled}
use Rattle.std.specs.List.{FoldsTo}
use Rattle.std.specs.declared.fmt.Formatter.{Formatter}

joined : {P A : Type 0} (R : P → A → P → Type 0) (p q r : P) (xs ys : List A) → FoldsTo R p xs q → FoldsTo R q ys r
    → FoldsTo R p (xs ++ ys) r
joined R p q r [] ys front back = subst (λ p. FoldsTo R p ys r) (sym front) back
joined R p q r (x ∷ xs) ys front back = (front.0, front.1, joined R front.0 q r xs ys front.2 back)

pub written_both : {W : Type 0} (took : W → List ℕ → W → Type 0) (f g h : Formatter W) (front back : List ℕ)
    → HasWrittenStyled took f front g → HasWrittenStyled took g back h → HasWrittenStyled took f (front ++ back) h
written_both took f g h front back first last = record {
  wrote = record {
    parts = first.wrote.parts ++ last.wrote.parts;
    calls = joined took f.writer g.writer h.writer first.wrote.parts last.wrote.parts first.wrote.calls last.wrote.calls;
    whole = concat-append first.wrote.parts last.wrote.parts ∙ cc (first.wrote.whole, last.wrote.whole);
  };
  spec = last.spec ∙ first.spec;
  flush = last.flush;
}
