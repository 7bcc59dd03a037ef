use Rattle.std.proofs.Common.{subst, ap, map, sym, ◌∙◌}
use Rattle.std.specs.List.Sorted.{IsPermutation}
use Rattle.chain_terms.specs.Chains.{all_edges}
use Rattle.chain_terms.specs.Odd.{backward}
use Rattle.mesh_terms.specs.Meshes.{triples_of}
use Rattle.halfedge.specs.Pairing.{numbered, turned}
use Rattle.halfedge.proofs.NumberedHalves.{turned-numbered, open_found}
use Rattle.halfedge.proofs.open_edge.least_open_edge.Goals as goal

pub returns : goal.returns
returns c =
    let es = all_edges (triples_of c.args.triples.now) in
    let listed = c.in_ok-edges.ensures in
    let turned_round = c.in_ok-back.ensures ∙ ap (map turned) (c.deref.ensures.value ∙ listed) ∙ turned-numbered 0 es in
    let moved = subst (λ l. IsPermutation l c.sort_unstable.new.self.items) listed c.sort_unstable.ensures.permutation in
    let back_moved = subst (λ l. IsPermutation l c.sort_unstable-2.new.self.items) turned_round c.sort_unstable-2.ensures.permutation in
    open_found es _ _ _
    (subst (IsPermutation (numbered 0 es)) (sym c.deref-2.ensures.value) moved)
    (subst (IsPermutation (numbered 0 (backward es))) (sym c.deref-3.ensures.value) back_moved)
    c.least_surplus.ensures.none c.least_surplus.ensures.least
