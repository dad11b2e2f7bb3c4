-- The body is empty: the borrow ends with fields that the `view` reads as one more.
use Rattle.std.proofs.Common.{◌≡◌, ℕ, ◌+◌, List, [], ◌∷◌, refl, ap}
use Rattle.std.proofs.raw_atomic.Walks.{proved}
use mir.Syntax.{named}
use mir.Val.{Val, vunit}
use base.Logic.{id⊢}
use base.Fml.{Fml, ftrue, fsep, flft}
use types.Kit.{‵, ◌⊛◌, ◌$◌, ◌∵◌, !, qed, move, keep, use1, split, join, fsplit3, fpick, fpack, feq_i, suffices, frame, group, done}
use types.Run.{unit_lit, of_opd, returns, enter}
use types.ByLocal.{alloc_all, pass_all, free_all, look_at, sets}
use denote.Ref.{MutRef, mut_vals, mut_Tells}
use denote.Signature.{plain}
use denote.Steps.{nothing, opens, closes}
use denote.Triple.Walked.{Stays, walk_of, says, stay_ref, Goes-ref, ends_at}
use Rattle.atoi_core.specs.declared.engine.steps.Steps.TheInside.{Inside}
use Rattle.atoi_core.specs.contracts.engine.steps.Steps.{the_row, the_view, the_invariant}
use Rattle.atoi_core.specs.contracts.engine.steps.Steps.TheInside.{the_row as inside_row}
use Rattle.atoi_core.specs.contracts.engine.steps.Steps.tick as tick
use Rattle.atoi_core.proofs.engine.steps.Steps.tick.Statement.{statement}
use Rattle.atoi_core.proofs.engine.steps.Steps.tick.Code as code

abbrev stayed : Stays tick.ended.signature.params tick.ended.kept
stayed = (stay_ref (0 ∷ []) tt (plain (λ _. the_row)), tt)

-- Fields that the view reads as n.
abbrev Fields : ℕ → Type 0
Fields n = (fields : Inside) × ((the_view fields ≡ n) × the_invariant fields)

abbrev next : (n : ℕ) → Fields n → Fields (n + 1)
next n x = (record x.0 { number = x.0.number + 1 }, (ap (λ m. m + 1) x.1.0, tt))

abbrev owned : (n : ℕ) (us : List Val) → Fields n → Fml
owned n us x = fsep (inside_row.own_val x.0 us) ftrue

pub tick_spec : {M : Type 1} → statement M
tick_spec 𝓤 𝓛 𝓜 𝓡 wired =
    let clauses = tick.clauses 𝓛 𝓜.mem 𝓡.returns in let W = walk_of 𝓛 tick.ended stayed clauses in
    proved 𝓛 tick.ended stayed clauses 𝓜 𝓡 (Goes-ref 𝓛 1 0 tt (plain (λ _. the_row)), tt)
    tick.Key.name code.function (code.unfolded 𝓤 𝓛.H 𝓜 𝓡 wired)
    (λ κs. (mut_vals, tt)) (λ κs. (mut_Tells (named 0) κs.0 the_row, tt)) (λ κs qs bounds a _ _.
    let b = a.0.ref_ptr.0 in let o = a.0.ref_ptr.1 in let n = a.0.now in let vs = mut_vals a.0 in
    let y : W.Ghost = ((κs, qs, bounds, a, (vs, tt)), tt) in
    qed 𝓛 (((‵ (flft κs.0 qs.0) ⊛ ‵ ftrue) ⊛ ‵ ((MutRef (named 0) κs.0 the_row).own_val a.0 vs) ⊛ ‵ ftrue) ∷ ‵ ftrue ∷ []) ∵
    split ! $ split ! $ move ! (2 ∷ []) $ split ! $ keep ! (0 ∷ 2 ∷ []) $
    enter ! _ _ _ _ _ $ alloc_all ! (λ l. pass_all ! refl ((tt, tt), tt) $
    -- The borrow of `self` is opened: it holds fields that the view reads as n.
    fsplit3 ! $ move ! (1 ∷ 2 ∷ 3 ∷ []) $ opens ! tt the_row b o (λ us.
    sets ! (of_opd ! (unit_lit !)) refl (tt, tt) $
    -- It is closed with fields of n + 1 over the same bytes.
    move ! (1 ∷ []) $ fpick ! (λ x. use1 𝓛 (‵ (owned (n + 1) us (next n x))) (id⊢ 𝓤 _) $
    fpack ! (Fields (n + 1)) (owned (n + 1) us) (next n x) $
    move ! (1 ∷ 0 ∷ []) $ closes ! tt the_row (n + 1) us b o $
    returns ! (look_at ! 0 refl) $ free_all ! refl $ move ! (3 ∷ []) $
    -- So the clause holds where the function returns.
    suffices ! _ (ends_at 𝓛 tick.ended stayed clauses y vunit tt (n + 1, tt) (tt, tt)) $ says ! refl $
    group ! 3 $ nothing ! $ move ! (1 ∷ 0 ∷ []) $ join ! $ nothing ! $ move ! (2 ∷ 0 ∷ []) $ join ! $ frame ! $ frame ! $
    feq_i ! _ (vunit ∷ []) _ refl $ done !))))
