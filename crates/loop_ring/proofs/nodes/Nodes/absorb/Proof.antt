-- The nodes of two owners become those of one. Assumes `Logic`.
use Rattle.loop_ring.proofs.Walking.{List, [], ◌∷◌, ◌++◌, refl, proved, Goes-blank, ftrue, flft, named, Val, vunit, vstruct, vcons, vnil, ‵, ◌⊛◌, ◌$◌, ◌∵◌, !, qed, done, move, keep, use2, split, join, fsplit, feq_i, suffices, frame, enter, of_opd, unit_lit, returns, alloc_all, pass_all, free_all, look_at, sets, yes, mut_vals, mut_Tells, plain, nothing, Stays, walk_of, says, stay_dropped, stay_ref, Goes-ref, ends_at}
use Rattle.loop_ring.specs.Located.{Located, owns_nodes}
use Rattle.loop_ring.proofs.Memory.{owns_together}
use Rattle.loop_ring.proofs.Borrowed.{Self, nodes_out, nodes_in}
use Rattle.loop_ring.specs.contracts.nodes.Nodes.{the_row as R}
use Rattle.loop_ring.proofs.nodes.Nodes.TheLaws.{lowers}
use Rattle.loop_ring.specs.contracts.nodes.Nodes.absorb as f
use Rattle.loop_ring.proofs.nodes.Nodes.absorb.Statement.{statement}
use Rattle.loop_ring.proofs.nodes.Nodes.absorb.Code as code

abbrev stayed : Stays f.ended.signature.params f.ended.kept
stayed = (stay_ref (0 ∷ []) tt (plain (λ _. R)), (stay_dropped _ yes, tt))

pub absorb_spec : {M : Type 1} → statement M
absorb_spec 𝓤 𝓛 𝓜 𝓡 wired =
    let c = f.clauses 𝓛 𝓜.mem 𝓡.returns in let W = walk_of 𝓛 f.ended stayed c in
    proved 𝓛 f.ended stayed c 𝓜 𝓡 (Goes-ref 𝓛 1 0 tt (plain (λ _. R)), (Goes-blank 𝓛 1 (plain (λ _. R)) yes (λ κs x w. tt), tt))
    f.Key.name code.function (code.unfolded 𝓤 𝓛.H 𝓜 𝓡 wired)
    (λ κs. (mut_vals, ((λ d. lowers.lowered d ∷ []), tt))) (λ κs. (mut_Tells (named 0) κs.0 R, (lowers.val_is, tt))) (λ κs qs bounds a _ are.
    let self = a.0 in let vs = mut_vals self in let owner : Val = vstruct (vcons vunit vnil) in
    let ns : List Located = self.now.list in let ms : List Located = a.1.0.list in
    let y : W.Ghost = ((κs, qs, bounds, a, (vs, (owner ∷ [], tt))), tt) in
    qed 𝓛 (((‵ (flft κs.0 qs.0) ⊛ ‵ ftrue) ⊛ ‵ ((Self κs.0).own_val self vs) ⊛ ‵ (R.own_val a.1.0 (owner ∷ [])) ⊛ ‵ ftrue) ∷ ‵ ftrue ∷ []) ∵
    split ! $ split ! $ move ! (2 ∷ []) $ split ! $ move ! (1 ∷ []) $ split ! $ fsplit ! $ keep ! (3 ∷ 4 ∷ 1 ∷ []) $
    -- [self; its token; the other's nodes]
    enter ! _ _ _ _ _ $ alloc_all ! (λ l. pass_all ! refl ((tt, tt), ((tt, (tt, tt)), tt)) $
    nodes_out self vs ! tt (λ us. move ! (0 ∷ 2 ∷ []) $ use2 𝓛 (‵ (owns_nodes (ns ++ ms))) (owns_together 𝓛 ns ms) $ nodes_in self vs ! tt us (ns ++ ms) $
    sets ! (of_opd ! (unit_lit !)) refl (tt, tt) $ returns ! (look_at ! 0 refl) $ free_all ! refl $
    suffices ! _ (ends_at 𝓛 f.ended stayed c y vunit tt (record self.now { list = ns ++ ms }, (tt, tt)) (tt, (tt, tt))) $ says ! refl $
    nothing ! $ nothing ! $ join ! $ move ! (1 ∷ 0 ∷ []) $ join ! $ nothing ! $ move ! (2 ∷ 0 ∷ []) $ join ! $ frame ! $ frame ! $
    feq_i ! _ (vunit ∷ []) _ refl $ done !)))
