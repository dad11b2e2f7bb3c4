use Rattle.std.proofs.Common.{rules, ◌∙◌}
use Rattle.atoi_core.specs.contracts.error.AtoiSimdErrorOrd.TheImpl.Laws.{matches_partial_cmp-law}
use Rattle.atoi_core.proofs.error.AtoiSimdError.partial_order.Goals as goal

-- `partial_cmp` returns what `cmp` returns.
pub returns : goal.returns
returns c =
    rw (c.partial_cmp.ensures ∙ matches_partial_cmp-law c.args.self.now c.args.other.now) (search rules)
