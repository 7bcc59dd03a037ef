-- A block becomes a node that is its own neighbour. Assumes `Logic`.
use Rattle.loop_ring.proofs.Walking.{ℕ, ◌<◌, ◌^◌, List, [], ◌∷◌, ◌++◌, refl, subst, proved_at, after, Goes-blank, Good, as_written, SProp, ftrue, flft, named, Val, vptr, vint, w32, tables, WpFn, ‵, ◌⊛◌, prop, at_ret, ◌$◌, ◌∵◌, !, qed, done, move, keep, use2, split, join, fsplit3, fjoin, fjoin3, feq_i, feq_l, regoal, suffices, frame, enter, of_opd, init, stop, fld, no_more, and_then, assigns_last, first, blocks, exec, returns, alloc_all, pass_all, free_all, look_at, get, get_in, through, sets, env, whole, sub, agg, u32, owns, yes, Typed, Ptr, block_ptr, MutRef, plain, nothing, Stays, walk_of, says, stay_dropped, stay_ref, Goes-dropped, Goes-ref, ends_at}
use Rattle.std_alloc.proofs.room.vacant.Vacant.TheLaws as vacant
use Rattle.std.specs.contracts.alloc.Global.{the_row as G}
use Rattle.std.specs.contracts.impls.GlobalAllocator.TheImpl.{ghosts}
use Rattle.std.proofs.alloc.Global.TheLaws as global
use Rattle.loop_ring.specs.Located.{Located, alone, owns_nodes}
use Rattle.loop_ring.proofs.Memory.{node_type, node_in, owns_together}
use Rattle.loop_ring.proofs.Borrowed.{nodes_out, nodes_in}
use Rattle.loop_ring.proofs.Rooms.{Room, room_val, room_out, fields_in}
use Rattle.loop_ring.specs.declared.nodes.Node.{Node}
use Rattle.loop_ring.specs.contracts.nodes.Nodes.{the_row as R}
use Rattle.loop_ring.specs.contracts.nodes.Node.{the_row as N}
use Rattle.loop_ring.proofs.nodes.Node.TheLaws.{lowered, the_row_laws}
use Rattle.loop_ring.specs.contracts.nodes.Nodes.fill as f
use Rattle.loop_ring.proofs.nodes.Nodes.fill.Statement.{statement}
use Rattle.loop_ring.proofs.nodes.Nodes.fill.Code as code

abbrev stayed : Stays f.ended.signature.params f.ended.kept
stayed = (stay_ref (0 ∷ []) tt (plain (λ _. R)), (stay_dropped _ yes, (stay_dropped _ yes, tt)))

pub fill_spec : {M : Type 1} → statement M
fill_spec 𝓤 𝓛 𝓜 𝓡 wired =
    let c = f.clauses 𝓛 𝓜.mem 𝓡.returns in let W = walk_of 𝓛 f.ended stayed c in let 𝓣 = tables 𝓤 𝓛.H 𝓜 𝓡 𝓡.env in
    proved_at 𝓛 f.ended stayed c 𝓜 𝓡
    (Goes-ref 𝓛 1 0 tt (plain (λ _. R)), (Goes-blank 𝓛 1 (plain (λ _. Room)) yes (λ κs x w. tt), (Goes-dropped 𝓛 1 (plain (λ _. u32)) yes (λ κs x w. refl), tt)))
    f.Key.name code.function (code.unfolded 𝓤 𝓛.H 𝓜 𝓡 wired) (λ z are.
    let κ = z.0.0.0 in let q = z.0.1.0 in let a = z.0.3 in let vss = z.0.4 in let self = a.0 in let vs = vss.0 in
    let room : Room.Denot = a.1.0 in let value : ℕ = a.1.1.0 in let ns : List Located = self.now.list in let small : value < 2 ^ 32 = are.1.1.0.1 in
    let Post : Val → SProp 𝓤 = W.post z in
    qed 𝓛 (((‵ (flft κ q) ⊛ ‵ ftrue) ⊛ ‵ (owns (MutRef (named 0) κ R ∷ Room ∷ u32 ∷ []) a vss)) ∷ ‵ ftrue ∷ []) ∵
    split ! $ split ! $ move ! (2 ∷ []) $ fsplit3 ! $
    -- [self; the room; the value; self's token]
    move ! (1 ∷ []) $ room_out ! room vss.1.0
    (λ b o there stored. move ! (3 ∷ []) $ fsplit3 ! $ feq_l ! (λ passed. feq_i ! (List Val) vs (vptr self.ref_ptr.0 self.ref_ptr.1 ∷ []) passed $ fjoin3 ! $
    keep ! (0 ∷ 5 ∷ 1 ∷ 2 ∷ []) $
    let block : Val = room_val b o room.alloc in let at : Ptr = block_ptr b o in let x : Node = (alone at value).1 in let more : List Located = ns ++ alone at value ∷ [] in
    let typed = (subst (Typed Room.mir) stored (((vacant.the_field_loose N G ghosts the_row_laws global.the_row_laws).lawful 𝓛).typed room vss.1.0 are.1.0)).0 in
    -- [self; its token; memory for a node; the right to free it]
    regoal ! (λ (us : List Val). prop (WpFn 𝓤 𝓛.H 𝓣.C 𝓣.Λ code.function us Post)) (λ i. passed i ++ (stored i ++ (are.1.1.0.0 i ++ []))) refl $
    enter ! 𝓣.C 𝓣.Λ code.function (vptr self.ref_ptr.0 self.ref_ptr.1 ∷ block ∷ vint w32 value ∷ []) Post $ alloc_all !
    (λ l. pass_all ! refl ((tt, tt), (typed, ((tt, record { fits = small }), tt))) $
    nodes_out self vs ! tt (λ us. move ! (2 ∷ []) $ as_written ! node_type b o $
    let good : Good node_type (lowered x) = (tt, (tt, (tt, (record { fits = small }, tt)))) in
    sets ! (of_opd ! (get_in ! (fld ! refl (stop !)) (sub ! 0 refl (whole !)))) refl (tt, tt) $
    sets ! (agg ! (and_then ! (get ! refl) (and_then ! (get ! refl) (and_then ! (get ! refl) (no_more !))))) refl good $
    first ! $ blocks ! $ assigns_last ! (of_opd ! (get ! refl)) (through ! refl (stop !)) (init ! 0 refl good) $
    exec ! 𝓣.C 𝓣.Λ (env code.Mir.locals l) (after 3 (code.function).body) (at_ret _ Post) $ sets ! (of_opd ! (get ! refl)) refl (tt, tt) $
    -- [the node; the nodes; the rest of self; the right to free it]
    fields_in ! x small $ move ! (1 ∷ 0 ∷ 4 ∷ []) $ node_in ! x b o $ nothing ! $ move ! (1 ∷ 0 ∷ []) $ fjoin ! $ move ! (1 ∷ 0 ∷ []) $
    use2 𝓛 (‵ (owns_nodes more)) (owns_together 𝓛 ns (alone at value ∷ [])) $ nodes_in self vs ! tt us more $
    returns ! (look_at ! 0 refl) $ free_all ! refl $
    suffices ! _ (ends_at 𝓛 f.ended stayed c z (vptr b o) at (record self.now { list = more }, (tt, (tt, tt))) (tt, (tt, (tt, tt)))) $ says ! refl $
    nothing ! $ move ! (2 ∷ 0 ∷ []) $ join ! $ frame ! $ nothing ! $ nothing ! $ fjoin ! $ nothing ! $ fjoin ! $ move ! (1 ∷ 0 ∷ []) $ fjoin ! $
    feq_i ! (List Val) (vptr b o ∷ []) (vptr b o ∷ []) refl $ move ! (1 ∷ 0 ∷ []) $ done !)))))
