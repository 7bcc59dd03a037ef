-- The block of the first node is given away. Assumes `Logic`.
use Rattle.loop_ring.proofs.Walking.{List, [], ◌∷◌, drop, get_or, refl, proved, Ptr-Good, as_raw, ftrue, full_share, fat, froom, flft, named, ty_ptr, Val, fact, ‵, raw, ◌⊛◌, ◌$◌, ◌∵◌, !, qed, done, move, keep, leave, use1, split, join, rewrite, suffices, frame, enter, no_more, and_then, returns, alloc_all, pass_all, free_all, look_at, take_at, give_at, get, sets, agg, yes, Ptr, RawPtr, ptr_val, block_ptr, rawptr_vals, rawptr_Tells, mut_vals, mut_Tells, plain, nothing, heard, Stays, walk_of, says, stay_dropped, stay_ref, Goes-dropped, Goes-ref, ends_at}
use Rattle.std.specs.contracts.alloc.Global.{the_row as G}
use Rattle.std.proofs.alloc.Global.TheLaws as global
use Rattle.loop_ring.specs.Located.{Located, nowhere, IsAddress}
use Rattle.loop_ring.proofs.Memory.{node_type, one_out}
use Rattle.loop_ring.proofs.Borrowed.{Self, nodes_out, nodes_in}
use Rattle.loop_ring.proofs.Rooms.{room_val, room_in}
use Rattle.loop_ring.specs.contracts.nodes.Nodes.{the_row as R}
use Rattle.loop_ring.proofs.nodes.Node.TheLaws.{lowered}
use Rattle.loop_ring.specs.contracts.nodes.Nodes.vacate as f
use Rattle.loop_ring.proofs.nodes.Nodes.vacate.Statement.{statement}
use Rattle.loop_ring.proofs.nodes.Nodes.vacate.Code as code

abbrev stayed : Stays f.ended.signature.params f.ended.kept
stayed = (stay_ref (0 ∷ []) tt (plain (λ _. R)), (stay_dropped _ yes, (stay_dropped _ yes, tt)))

pub vacate_spec : {M : Type 1} → statement M
vacate_spec 𝓤 𝓛 𝓜 𝓡 wired =
    let c = f.clauses 𝓛 𝓜.mem 𝓡.returns in let W = walk_of 𝓛 f.ended stayed c in
    proved 𝓛 f.ended stayed c 𝓜 𝓡
    (Goes-ref 𝓛 1 0 tt (plain (λ _. R)), (Goes-dropped 𝓛 1 (plain (λ _. G)) yes (λ κs x w. refl), (Goes-dropped 𝓛 1 (plain (λ _. RawPtr)) yes (λ κs x w. refl), tt)))
    f.Key.name code.function (code.unfolded 𝓤 𝓛.H 𝓜 𝓡 wired)
    (λ κs. (mut_vals, ((λ h. global.lowered h ∷ []), (rawptr_vals, tt)))) (λ κs. (mut_Tells (named 0) κs.0 R, (global.lowers.val_is, (rawptr_Tells, tt)))) (λ κs qs bounds a _ are.
    let self = a.0 in let vs = mut_vals self in let handle : G.Denot = a.1.0 in let stored : Val = global.lowered handle in let at : Ptr = a.1.1.0 in
    let ns : List Located = self.now.list in let known = ((global.the_row_laws.lawful 𝓛).typed handle _ are.1.0).0 in
    let y : W.Ghost = ((κs, qs, bounds, a, (vs, (stored ∷ [], (rawptr_vals at, tt)))), tt) in
    qed 𝓛 (((‵ (flft κs.0 qs.0) ⊛ ‵ ftrue) ⊛ ‵ ((Self κs.0).own_val self vs) ⊛ ‵ (G.own_val handle (stored ∷ [])) ⊛ ‵ (RawPtr.own_val at (rawptr_vals at)) ⊛ ‵
    ftrue) ∷ raw (fact 𝓤 (IsAddress ns 0 at)) ∷ []) ∵
    move ! (1 ∷ []) $ heard ! (IsAddress ns 0 at) (λ asked. split ! $ split ! $ move ! (2 ∷ []) $ split ! $ move ! (1 ∷ []) $ split ! $ keep ! (2 ∷ 3 ∷ 0 ∷ []) $
    -- [self; its token; the handle]
    enter ! _ _ _ _ _ $ alloc_all ! (λ l. pass_all ! refl ((tt, tt), (known, (Ptr-Good at, tt))) $
    nodes_out self vs ! tt (λ us. one_out ns 0 at asked.0 ! asked.1 (λ b o there.
    -- [the node; the right to free its block; no nodes; the others; the rest of self; the handle]
    take_at ! 3 $ rewrite ! 0 (λ (p : Ptr). ‵ (fat full_share ty_ptr (l 3) 0 (ptr_val p))) there refl $ give_at ! 3 $
    sets ! (agg ! (and_then ! (get ! refl) (and_then ! (get ! refl) (no_more !)))) refl (tt, (tt, (known.1, tt))) $
    use1 𝓛 (‵ (froom node_type b o)) (𝓛.laws.at_room node_type b o (lowered (get_or ns 0 nowhere).1)) $ as_raw ! node_type b o $
    move ! (0 ∷ 1 ∷ 5 ∷ []) $ room_in ! handle b o $ move ! (1 ∷ []) $ leave ! $ move ! (1 ∷ 2 ∷ []) $ nodes_in self vs ! tt us (drop 1 ns) $
    returns ! (look_at ! 0 refl) $ free_all ! refl $
    suffices ! _ (ends_at 𝓛 f.ended stayed c y (room_val b o handle) (record { ptr = block_ptr b o; alloc = handle })
    (record self.now { list = drop 1 ns }, (tt, (tt, tt))) (tt, (tt, (tt, tt)))) $ says ! refl $
    nothing ! $ nothing ! $ join ! $ nothing ! $ join ! $ move ! (1 ∷ 0 ∷ []) $ join ! $ nothing ! $ move ! (2 ∷ 0 ∷ []) $ join ! $ frame ! $ frame ! $ done !)))))
