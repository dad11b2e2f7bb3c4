-- Where no zero leads, a prefix is parsed alike with skipping and without it.
use Rattle.std.proofs.Common.{◌≡◌, ℕ, List, Bool, true, false, refl}
use Rattle.atoi_core.specs.Digit.{Table}
use Rattle.atoi_core.specs.Magnitude.{Class, prefix, rule_of, refusal, prefix_magnitude}
use Rattle.atoi_core.specs.Run.{zeros}

-- `alike` holds of wide classes, by `λ _. refl`.
pub unskipped : (table : Table) (class : Class) (bound limit : ℕ) (skip : Bool) (s : List ℕ)
    → ((digits : ℕ) → rule_of class prefix true limit digits 0 ≡ rule_of class prefix false limit digits 0)
    → (skip ≡ true → zeros table s ≡ 0)
    → prefix_magnitude table class bound limit skip s ≡ prefix_magnitude table class bound limit false s
unfolding refusal
unskipped table class bound limit true s alike none = rw (none refl, alike) refl
unskipped table class bound limit false s alike none = refl
