-- `Steps` has no bytes: the proof chooses fields that the `view` reads as 0.
use Rattle.std.proofs.Common.{[], ◌∷◌, refl}
use Rattle.std.proofs.raw_atomic.Walks.{proved}
use mir.Val.{Val, vstruct, vcons, vnil}
use contract.Running.{tables}
use types.Kit.{raw, ◌$◌, ◌∵◌, !, qed, keep, join, suffices, done}
use types.Run.{no_more, and_then, returns, enter}
use types.Part.{agg}
use types.ByLocal.{alloc_all, pass_all, free_all, look_at, get, sets}
use denote.Shadow.{pure_i}
use denote.Steps.{nothing}
use denote.Triple.Entry.{on_entry}
use denote.Triple.Walked.{says, ends_at}
use Rattle.atoi_core.specs.declared.engine.steps.Steps.TheInside.{Inside}
use Rattle.atoi_core.specs.contracts.engine.steps.Steps.{the_row}
use Rattle.atoi_core.specs.contracts.engine.steps.Steps.new as new
use Rattle.atoi_core.proofs.engine.steps.Steps.new.Statement.{statement}
use Rattle.atoi_core.proofs.engine.steps.Steps.new.Code as code

abbrev bytes : Val
bytes = vstruct (vcons (vstruct vnil) vnil)

abbrev fields : Inside
fields = record { marker = record {}; number = 0 }

pub new_spec : {M : Type 1} → statement M
new_spec 𝓤 𝓛 𝓜 𝓡 wired =
    let clauses = new.clauses 𝓛 𝓜.mem 𝓡.returns in let 𝓣 = tables 𝓤 𝓛.H 𝓜 𝓡 𝓡.env in
    proved 𝓛 new.ended tt clauses 𝓜 𝓡 tt new.Key.name code.function (code.unfolded 𝓤 𝓛.H 𝓜 𝓡 wired)
    (λ κs. tt) (λ κs. tt) (λ κs qs bounds a g _.
    qed 𝓛 (raw (on_entry 𝓛 new.signature κs qs a tt) ∷ raw ((clauses κs a).requires g) ∷ []) ∵ keep ! [] $
    -- The body: the marker is made, then the struct of it, which is the result.
    enter ! 𝓣.C 𝓣.Λ code.function [] _ $ alloc_all ! (λ l. pass_all ! refl tt $
    sets ! (agg ! (no_more !)) refl (tt, tt) $ sets ! (agg ! (and_then ! (get ! refl) (no_more !))) refl (tt, (tt, tt)) $
    returns ! (look_at ! 0 refl) $ free_all ! refl $
    -- Its bytes are the bytes of `fields`, of which the view reads 0.
    pure_i ! (the_row.own_val 0 (bytes ∷ [])) (λ _. (((λ _. (tt, ((λ _. (tt, tt)), tt))), tt), tt))
    ((fields, (refl, tt)), ((((vstruct vnil ∷ [], tt), (refl, ((tt, (refl, tt)), tt))), tt), tt)) $
    -- So the clause holds where the function returns.
    suffices ! _ (ends_at 𝓛 new.ended tt clauses ((κs, qs, bounds, a, tt), g) bytes 0 tt tt) $ says ! refl $
    nothing ! $ join ! $ nothing ! $ done !))
