-- One node is lent. Assumes `Logic`.
use Rattle.loop_ring.proofs.Walking.{ℕ, List, [], ◌∷◌, get_or, refl, ◌∙◌, proved, after, Ptr-Good, fst∗, never, ftrue, full_share, fat, flft, named, ty_ptr, Val, vptr, vint, w64, sem, fact, tables, ‵, raw, ◌⊛◌, at_ret, ◌$◌, ◌∵◌, !, qed, done, move, keep, leave, use1, split, join, fsplit, fjoin, feq_i, rewrite, suffices, enter, of_opd, addr, stop, first, blocks, exec, returns, alloc_all, pass_all, free_all, look_at, take_at, give_at, get, through, sets, sets_last, env, usize, yes, Ptr, RawPtr, ptr_val, in_a_block, rawptr_vals, rawptr_Tells, ShrRef, shr_vals, shr_Tells, uint_vals, uint_Tells, plain, Struct, shape, nothing, heard, Stays, walk_of, says, stay_dropped, Goes-dropped, ends_at}
use base.Fml.{fhide}
use denote.Builtin.{RefOf}
use denote.Memory.{hidden_shr, shared_of}
use denote.Opens.{unhide, hide}
use denote.Struct.Lending.{lent_at, lent_out}
use Rattle.loop_ring.specs.Located.{Located, nowhere, IsAddress, lends_nodes}
use Rattle.loop_ring.proofs.Lists.{address_at-is}
use Rattle.loop_ring.proofs.Lending.{lends_one}
use Rattle.loop_ring.specs.contracts.nodes.Nodes as C
use Rattle.loop_ring.specs.contracts.nodes.Node.{the_row as N}
use Rattle.loop_ring.specs.contracts.nodes.Nodes.node as f
use Rattle.loop_ring.proofs.nodes.Nodes.node.Statement.{statement}
use Rattle.loop_ring.proofs.nodes.Nodes.node.Code as code

abbrev stayed : Stays f.ended.signature.params f.ended.kept
stayed = (stay_dropped (RefOf (0 ∷ []) tt (plain (λ _. C.the_row)) (λ _. tt)) yes, (stay_dropped _ yes, (stay_dropped _ yes, tt)))

pub node_spec : {M : Type 1} → statement M
node_spec 𝓤 𝓛 𝓜 𝓡 wired =
    let c = f.clauses 𝓛 𝓜.mem 𝓡.returns in let W = walk_of 𝓛 f.ended stayed c in let 𝓣 = tables 𝓤 𝓛.H 𝓜 𝓡 𝓡.env in
    proved 𝓛 f.ended stayed c 𝓜 𝓡 (
      Goes-dropped 𝓛 1 (RefOf (0 ∷ []) tt (plain (λ _. C.the_row)) (λ _. tt)) yes (λ κs x w. refl),
      (Goes-dropped 𝓛 1 (plain (λ _. RawPtr)) yes (λ κs x w. refl), (Goes-dropped 𝓛 1 (plain (λ _. usize)) yes (λ κs x w. refl), tt)),
    )
    f.Key.name code.function (code.unfolded 𝓤 𝓛.H 𝓜 𝓡 wired)
    (λ κs. (shr_vals, (rawptr_vals, (uint_vals w64, tt)))) (λ κs. (shr_Tells (named 0) κs.0 C.the_row, (rawptr_Tells, (uint_Tells w64, tt)))) (λ κs qs bounds a _ are.
    let κ = κs.0 in let self = a.0 in let vs = shr_vals self in let at : Ptr = a.1.0 in let i : ℕ = a.1.1.0 in
    let ns : List Located = self.now.list in let n : Located = get_or ns i nowhere in let b = self.ref_ptr.0 in let o = self.ref_ptr.1 in
    let y : W.Ghost = ((κs, qs, bounds, a, (vs, (rawptr_vals at, (uint_vals w64 i, tt)))), tt) in
    qed 𝓛 (((‵ (flft κ qs.0) ⊛ ‵ ftrue) ⊛ ‵ ((ShrRef (named 0) κ C.the_row).own_val self vs) ⊛ ‵ (RawPtr.own_val at (rawptr_vals at)) ⊛ ‵
    (usize.own_val i (vint w64 i ∷ [])) ⊛ ‵ ftrue) ∷ raw (fact 𝓤 (IsAddress ns i at)) ∷ []) ∵
    move ! (1 ∷ []) $ heard ! (IsAddress ns i at) (λ asked. split ! $ split ! $ move ! (2 ∷ []) $ split ! $ fsplit ! $ keep ! (1 ∷ 3 ∷ []) $
    -- [what self shares; its token]
    enter ! _ _ _ _ _ $ alloc_all ! (λ l. pass_all ! refl ((tt, tt), (Ptr-Good at, ((tt, record { fits = are.1.1.0.1 }), tt))) $
    use1 𝓛 (‵ (hidden_shr (Struct (shape C.the_type)) κ (tt, tt) b o) ⊛ ‵ (fhide (lends_nodes ns κ))) (lent_out 𝓛 C.struct C.the_codes C.the_heap C.the_lent κ self.now b o) $
    split ! $ move ! (1 ∷ []) $ unhide ! $ use1 𝓛 (‵ (lent_at N n.0 n.1 κ)) (lends_one 𝓛 κ ns i asked.0) $
    in_a_block ! n.0 (λ p. lent_at N p n.1 κ) (fst∗ 𝓤 (never 𝓤) (sem 𝓛 (shared_of N n.1 0 0 κ))) (λ nb no there. fsplit ! $ leave ! $ hide ! $
    -- [what the node shares; what the owner's fields share; the token]
    take_at ! 2 $ rewrite ! 0 (λ (p : Ptr). ‵ (fat full_share ty_ptr (l 2) 0 (ptr_val p))) (asked.1 ∙ address_at-is ns i ∙ there) refl $ give_at ! 2 $
    first ! $ blocks ! $ sets_last ! (addr ! (through ! refl (stop !))) refl (tt, tt) $
    exec ! 𝓣.C 𝓣.Λ (env code.Mir.locals l) (after 1 (code.function).body) (at_ret _ (W.post y)) $ sets ! (of_opd ! (get ! refl)) refl (tt, tt) $
    feq_i ! (List Val) (vptr nb no ∷ []) (vptr nb no ∷ []) refl $ fjoin ! $ returns ! (look_at ! 0 refl) $ free_all ! refl $ keep ! (0 ∷ 2 ∷ []) $
    suffices ! _ (ends_at 𝓛 f.ended stayed c y (vptr nb no) (record { ref_ptr = (nb, no); now = n.1 }) (tt, (tt, (tt, tt))) (tt, (tt, (tt, tt)))) $ says ! refl $
    nothing ! $ nothing ! $ fjoin ! $ nothing ! $ fjoin ! $ nothing ! $ fjoin ! $ join ! $ nothing ! $ move ! (2 ∷ 0 ∷ []) $ join ! $ join ! $ done !))))
