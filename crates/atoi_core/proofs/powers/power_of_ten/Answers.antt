-- Each entry of `POWERS` is compared with its power of ten.
use Rattle.std.proofs.Common.{ℕ, ◌^◌, ◌==◌, true, refl, arith, slice_index_or}
use Rattle.std.proofs.lemmas.Bool.{eqb-true, agree_below_at}
use Rattle.atoi_core.specs.declared.powers.TheConstants.{POWERS}
use Rattle.atoi_core.proofs.powers.power_of_ten.Goals as goal

pub returns-clause-power : goal.returns-clause-power
returns-clause-power c =
    eqb-true _ _ (agree_below_at (λ (i : ℕ). slice_index_or POWERS i 0 == 10 ^ i) (λ _. true) 17 c.args.digits refl (omega arith))
