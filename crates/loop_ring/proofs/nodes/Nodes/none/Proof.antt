-- An owner of no nodes. Assumes `Logic`.
use Rattle.loop_ring.proofs.Walking.{List, [], ◌∷◌, refl, proved, ftrue, Val, vunit, vstruct, vcons, vnil, ‵, ◌⊛◌, ◌$◌, ◌∵◌, !, qed, done, move, leave, join, fjoin, fpack, feq_i, suffices, enter, unit_lit, no_more, and_then, agg, returns, alloc_all, pass_all, free_all, look_at, sets, unit, Valss, within, shape, nothing, Stays, walk_of, says, ends_at}
use Rattle.loop_ring.specs.contracts.nodes.Nodes as C
use Rattle.loop_ring.specs.contracts.nodes.Nodes.none as f
use Rattle.loop_ring.proofs.nodes.Nodes.none.Statement.{statement}
use Rattle.loop_ring.proofs.nodes.Nodes.none.Code as code

abbrev stayed : Stays f.ended.signature.params f.ended.kept
stayed = tt

pub none_spec : {M : Type 1} → statement M
none_spec 𝓤 𝓛 𝓜 𝓡 wired =
    let c = f.clauses 𝓛 𝓜.mem 𝓡.returns in let W = walk_of 𝓛 f.ended stayed c in let owner : Val = vstruct (vcons vunit vnil) in
    proved 𝓛 f.ended stayed c 𝓜 𝓡 tt f.Key.name code.function (code.unfolded 𝓤 𝓛.H 𝓜 𝓡 wired)
    (λ κs. tt) (λ κs. tt) (λ κs qs bounds a _ are.
    let y : W.Ghost = ((κs, qs, bounds, a, tt), tt) in
    qed 𝓛 ((‵ ftrue ⊛ ‵ ftrue) ∷ ‵ ftrue ∷ []) ∵ leave ! $ leave ! $
    enter ! _ _ _ _ _ $ alloc_all ! (λ l. pass_all ! refl tt $
    sets ! (agg ! (and_then ! (unit_lit !) (no_more !))) refl (tt, (tt, tt)) $ returns ! (look_at ! 0 refl) $ free_all ! refl $
    suffices ! _ (ends_at 𝓛 f.ended stayed c y owner (record { _private = tt; list = [] }) tt tt) $ says ! refl $
    nothing ! $ feq_i ! (List Val) (vunit ∷ []) (vunit ∷ []) refl $ fjoin ! $
    feq_i ! (List Val) (owner ∷ []) (owner ∷ []) refl $ fjoin ! $ fpack ! (Valss (unit ∷ [])) (within (shape C.the_type) (tt, tt) (owner ∷ [])) (vunit ∷ [], tt) $
    nothing ! $ move ! (1 ∷ 0 ∷ []) $ fjoin ! $ nothing ! $ join ! $ nothing ! $ join ! $ done !))
