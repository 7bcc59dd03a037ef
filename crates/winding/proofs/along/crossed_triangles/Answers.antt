use Rattle.std.proofs.Common.{◌≡◌, ◌<◌, ◌+◌, ◌/◌, ◌∷◌, ◌++◌, [], ℕ, Bool, true, List, set, length, take, sym, subst, ap, ◌∙◌, arith}
use Rattle.std.proofs.lemmas.List.{length-map, take_more}
use Rattle.mb_base.specs.declared.results.Hit.{Hit}
use Rattle.mesh_terms.specs.Meshes.{triple_of}
use Rattle.chain_terms.specs.Chains.{all_edges}
use Rattle.chain_terms.specs.Ranks.{twin}
use Rattle.halfedge.proofs.Edges.{length-all_edges}
use Rattle.winding.specs.Along.{AreCrossed}
use Rattle.winding.proofs.EdgeSums.{crossed_more, crossed_none}
use Rattle.winding.proofs.along.crossed_triangles.Goals as goal

pub loop-hit-init : goal.loop-hit-init
loop-hit-init c =
    let ts = c.args.edges.now.triples in
    let long = c.in_ok-crossed.ensures.len in
    crossed_none (all_edges ts) c.in_ok-crossed.crossed.items
    (omega (arith, long, length-map c.triples.result.now triple_of, ap length c.triples.ensures.value, length-all_edges ts))

pub twin-requires : goal.twin-requires
twin-requires c =
    let low = c.requires c.loop-hit.hit-index c.hit-item.result c.loop-hit-test.true in
    let here = ap (λ (h : Hit). h.edge) c.hit-item.is in
    omega (arith, low, here, length-all_edges c.args.edges.now.triples, ap length c.twins.ensures.triples)

pub loop-hit-preserved : goal.loop-hit-preserved
loop-hit-preserved c =
    let ts = c.args.edges.now.triples in
    let es = all_edges ts in
    let hits = c.args.hits.now in
    let i = c.loop-hit.hit-index in
    let h : Hit = c.hit-item.result in
    let marks : List Bool = c.loop-hit.crossed.items in
    let low = c.requires i h c.loop-hit-test.true in
    let here = ap (λ (k : Hit). k.edge) c.hit-item.is in
    let edge_low : h.edge < length es = omega (arith, low, here) in
    let turned : c.twin.result ≡ twin es h.edge = c.twin.ensures.value ∙ ap (λ l. twin (all_edges l) h.edge) c.twins.ensures.triples in
    let twin_low : c.twin.result < length es = subst (λ l. c.twin.result < length (all_edges l)) c.twins.ensures.triples c.twin.ensures.back.within in
    let full = c.loop-hit.invariant.full in
    let more = crossed_more es (take i hits) h marks c.loop-hit.invariant (omega (arith, edge_low, full)) (omega (arith, twin_low, turned, full)) in
    let placed : AreCrossed es (take i hits ++ h ∷ []) (set (set marks (h.edge / 3) true) (c.twin.result / 3) true) =
    subst (λ (n : ℕ). AreCrossed es (take i hits ++ h ∷ []) (set (set marks (h.edge / 3) true) (n / 3) true)) (sym turned) more in
    let next : take (i + 1) hits ≡ take i hits ++ h ∷ [] = take_more hits i h c.loop-hit-test.true ∙ ap (λ (k : Hit). take i hits ++ k ∷ []) (sym c.hit-item.is) in
    subst (λ (l : List Hit). AreCrossed es l (set (set marks (h.edge / 3) true) (c.twin.result / 3) true)) (sym next) placed
