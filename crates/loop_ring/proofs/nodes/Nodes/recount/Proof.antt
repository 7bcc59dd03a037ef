-- The nodes are listed from another one on, and nothing else changes. Assumes `Logic`.
use Rattle.loop_ring.proofs.Walking.{ℕ, ◌≤◌, List, [], ◌∷◌, length, take, drop, refl, sym, proved, ftrue, flft, named, vunit, vint, w64, fact, ‵, raw, ◌⊛◌, ◌$◌, ◌∵◌, !, qed, done, move, keep, use1, use2, split, join, feq_i, rewrite, suffices, frame, enter, of_opd, unit_lit, returns, alloc_all, pass_all, free_all, look_at, sets, usize, yes, mut_vals, mut_Tells, uint_vals, uint_Tells, plain, nothing, Stays, walk_of, says, stay_dropped, stay_ref, Goes-dropped, Goes-ref, ends_at}
use lib.ListN.{take-append-drop}
use Rattle.loop_ring.specs.Located.{Located, owns_nodes}
use Rattle.loop_ring.specs.Turning.{turned_to}
use Rattle.loop_ring.proofs.Memory.{owns_apart, owns_together}
use Rattle.loop_ring.proofs.Borrowed.{Self, nodes_out, nodes_in}
use Rattle.loop_ring.specs.contracts.nodes.Nodes.{the_row as R}
use Rattle.loop_ring.specs.contracts.nodes.Nodes.recount as f
use Rattle.loop_ring.proofs.nodes.Nodes.recount.Statement.{statement}
use Rattle.loop_ring.proofs.nodes.Nodes.recount.Code as code

abbrev stayed : Stays f.ended.signature.params f.ended.kept
stayed = (stay_ref (0 ∷ []) tt (plain (λ _. R)), (stay_dropped _ yes, tt))

pub recount_spec : {M : Type 1} → statement M
recount_spec 𝓤 𝓛 𝓜 𝓡 wired =
    let c = f.clauses 𝓛 𝓜.mem 𝓡.returns in let W = walk_of 𝓛 f.ended stayed c in
    proved 𝓛 f.ended stayed c 𝓜 𝓡 (Goes-ref 𝓛 1 0 tt (plain (λ _. R)), (Goes-dropped 𝓛 1 (plain (λ _. usize)) yes (λ κs x w. refl), tt))
    f.Key.name code.function (code.unfolded 𝓤 𝓛.H 𝓜 𝓡 wired)
    (λ κs. (mut_vals, (uint_vals w64, tt))) (λ κs. (mut_Tells (named 0) κs.0 R, (uint_Tells w64, tt))) (λ κs qs bounds a _ are.
    let self = a.0 in let vs = mut_vals self in let n : ℕ = a.1.0 in let ns : List Located = self.now.list in
    let y : W.Ghost = ((κs, qs, bounds, a, (vs, (uint_vals w64 n, tt))), tt) in
    qed 𝓛 (((‵ (flft κs.0 qs.0) ⊛ ‵ ftrue) ⊛ ‵ ((Self κs.0).own_val self vs) ⊛ ‵ (usize.own_val n (vint w64 n ∷ [])) ⊛ ‵ ftrue) ∷ raw (fact 𝓤 (n ≤ length ns)) ∷ []) ∵
    split ! $ split ! $ move ! (2 ∷ []) $ split ! $ keep ! (0 ∷ 2 ∷ []) $
    enter ! _ _ _ _ _ $ alloc_all ! (λ l. pass_all ! refl ((tt, tt), ((tt, record { fits = are.1.0.1 }), tt)) $
    nodes_out self vs ! tt (λ us. rewrite ! 0 (λ (ms : List Located). ‵ (owns_nodes ms)) (sym (take-append-drop n ns)) refl $
    use1 𝓛 (‵ (owns_nodes (take n ns)) ⊛ ‵ (owns_nodes (drop n ns))) (owns_apart 𝓛 (take n ns) (drop n ns)) $ split ! $ move ! (1 ∷ 0 ∷ []) $
    use2 𝓛 (‵ (owns_nodes (turned_to n ns))) (owns_together 𝓛 (drop n ns) (take n ns)) $
    nodes_in self vs ! tt us (turned_to n ns) $
    sets ! (of_opd ! (unit_lit !)) refl (tt, tt) $ returns ! (look_at ! 0 refl) $ free_all ! refl $
    suffices ! _ (ends_at 𝓛 f.ended stayed c y vunit tt (record self.now { list = turned_to n ns }, (tt, tt)) (tt, (tt, tt))) $ says ! refl $
    nothing ! $ nothing ! $ join ! $ move ! (1 ∷ 0 ∷ []) $ join ! $ nothing ! $ move ! (2 ∷ 0 ∷ []) $ join ! $ frame ! $ frame ! $
    feq_i ! _ (vunit ∷ []) _ refl $ done !)))
