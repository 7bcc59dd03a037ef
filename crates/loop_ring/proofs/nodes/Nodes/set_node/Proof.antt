-- One node is written over. Assumes `Logic`.
use Rattle.loop_ring.proofs.Walking.{ℕ, List, [], ◌∷◌, set, refl, proved, after, Ptr-Good, ftrue, full_share, fat, flft, named, ty_ptr, vunit, vint, w64, fact, tables, ‵, raw, ◌⊛◌, at_ret, ◌$◌, ◌∵◌, !, qed, done, move, keep, split, join, feq_i, rewrite, suffices, frame, enter, of_opd, unit_lit, store, stop, assigns_last, first, blocks, exec, returns, alloc_all, pass_all, free_all, look_at, take_at, give_at, get, through, sets, env, usize, yes, Ptr, RawPtr, ptr_val, rawptr_vals, rawptr_Tells, mut_vals, mut_Tells, uint_vals, uint_Tells, plain, nothing, heard, Stays, walk_of, says, stay_dropped, stay_ref, Goes-dropped, Goes-ref, ends_at}
use Rattle.loop_ring.specs.Located.{Located, IsAddress}
use Rattle.loop_ring.proofs.Memory.{one_out, one_in}
use Rattle.loop_ring.proofs.Borrowed.{Self, nodes_out, nodes_in}
use Rattle.loop_ring.specs.declared.nodes.Node.{Node}
use Rattle.loop_ring.specs.contracts.nodes.Nodes.{the_row as R}
use Rattle.loop_ring.specs.contracts.nodes.Node.{the_row as N}
use Rattle.loop_ring.proofs.nodes.Node.TheLaws.{lowered, lowers, the_row_laws}
use Rattle.loop_ring.specs.contracts.nodes.Nodes.set_node as f
use Rattle.loop_ring.proofs.nodes.Nodes.set_node.Statement.{statement}
use Rattle.loop_ring.proofs.nodes.Nodes.set_node.Code as code

abbrev stayed : Stays f.ended.signature.params f.ended.kept
stayed = (stay_ref (0 ∷ []) tt (plain (λ _. R)), (stay_dropped _ yes, (stay_dropped _ yes, (stay_dropped _ yes, tt))))

pub set_node_spec : {M : Type 1} → statement M
set_node_spec 𝓤 𝓛 𝓜 𝓡 wired =
    let c = f.clauses 𝓛 𝓜.mem 𝓡.returns in let W = walk_of 𝓛 f.ended stayed c in let 𝓣 = tables 𝓤 𝓛.H 𝓜 𝓡 𝓡.env in
    proved 𝓛 f.ended stayed c 𝓜 𝓡 (
      Goes-ref 𝓛 1 0 tt (plain (λ _. R)),
      (
        Goes-dropped 𝓛 1 (plain (λ _. RawPtr)) yes (λ κs x w. refl),
        (Goes-dropped 𝓛 1 (plain (λ _. usize)) yes (λ κs x w. refl), (Goes-dropped 𝓛 1 (plain (λ _. N)) yes (λ κs x w. refl), tt)),
      ),
    )
    f.Key.name code.function (code.unfolded 𝓤 𝓛.H 𝓜 𝓡 wired)
    (λ κs. (mut_vals, (rawptr_vals, (uint_vals w64, ((λ x. lowered x ∷ []), tt)))))
    (λ κs. (mut_Tells (named 0) κs.0 R, (rawptr_Tells, (uint_Tells w64, (lowers.val_is, tt))))) (λ κs qs bounds a _ are.
    let self = a.0 in let vs = mut_vals self in let at : Ptr = a.1.0 in let i : ℕ = a.1.1.0 in let x : Node = a.1.1.1.0 in let ns : List Located = self.now.list in
    let good = ((the_row_laws.lawful 𝓛).typed x _ are.1.1.1.0).0 in
    let y : W.Ghost = ((κs, qs, bounds, a, (vs, (rawptr_vals at, (uint_vals w64 i, (lowered x ∷ [], tt))))), tt) in
    qed 𝓛 (((‵ (flft κs.0 qs.0) ⊛ ‵ ftrue) ⊛ ‵ ((Self κs.0).own_val self vs) ⊛ ‵ (RawPtr.own_val at (rawptr_vals at)) ⊛ ‵ (usize.own_val i (vint w64 i ∷ [])) ⊛
    ‵ (N.own_val x (lowered x ∷ [])) ⊛ ‵ ftrue) ∷ raw (fact 𝓤 (IsAddress ns i at)) ∷ []) ∵
    move ! (1 ∷ []) $ heard ! (IsAddress ns i at)
    (λ asked. split ! $ split ! $ move ! (2 ∷ []) $ split ! $ move ! (1 ∷ []) $ split ! $ move ! (1 ∷ []) $ split ! $ move ! (1 ∷ []) $ split ! $ keep ! (4 ∷ 5 ∷ 0 ∷ []) $
    -- [self; its token; what the node owns of its fields]
    enter ! _ _ _ _ _ $ alloc_all ! (λ l. pass_all ! refl ((tt, tt), (Ptr-Good at, ((tt, record { fits = are.1.1.0.1 }), (good, tt)))) $
    nodes_out self vs ! tt (λ us. one_out ns i at asked.0 ! asked.1 (λ b o there.
    -- [the node that is there; the right to free its block; the nodes before; those after; the rest of self; what the node owns of its fields]
    take_at ! 2 $ rewrite ! 0 (λ (p : Ptr). ‵ (fat full_share ty_ptr (l 2) 0 (ptr_val p))) there refl $ give_at ! 2 $
    first ! $ blocks ! $ assigns_last ! (of_opd ! (get ! refl)) (through ! refl (stop !)) (store ! 0 refl good) $
    exec ! 𝓣.C 𝓣.Λ (env code.Mir.locals l) (after 1 (code.function).body) (at_ret _ (W.post y)) $ sets ! (of_opd ! (unit_lit !)) refl (tt, tt) $
    move ! (0 ∷ 5 ∷ []) $ one_in ns i at asked.0 ! x b o there $ nodes_in self vs ! tt us (set ns i (at, x)) $
    returns ! (look_at ! 0 refl) $ free_all ! refl $
    suffices ! _ (ends_at 𝓛 f.ended stayed c y vunit tt (record self.now { list = set ns i (at, x) }, (tt, (tt, (tt, tt)))) (tt, (tt, (tt, (tt, tt))))) $ says ! refl $
    nothing ! $ nothing ! $ join ! $ nothing ! $ join ! $ nothing ! $ join ! $ move ! (1 ∷ 0 ∷ []) $ join ! $ nothing ! $ move ! (2 ∷ 0 ∷ []) $ join ! $ frame ! $ frame ! $
    feq_i ! _ (vunit ∷ []) _ refl $ done !)))))
