use Rattle.std.proofs.Common.{◌≡◌, ◌≤◌, ◌∙◌, ℕ, List, neg_ℤ, if◌then◌else◌, arith, ap, length, sym}
use Rattle.std.proofs.lemmas.Bool.{le-ltb}
use Rattle.std.proofs.lemmas.Int.{ints}
use Rattle.chain_terms.specs.Chains.{all_edges}
use Rattle.chain_terms.specs.Ranks.{twin}
use Rattle.mb_base.specs.declared.results.Hit.{Hit}
use Rattle.mesh_terms.specs.Meshes.{Triple}
use Rattle.halfedge.proofs.Around.{pair_up}
use Rattle.halfedge.proofs.Edges.{length-all_edges}
use Rattle.winding.specs.Along.{edge_total, half_total}
use Rattle.winding.proofs.EdgeSums.{not_crossed}
use Rattle.winding.proofs.along.crossings_along.Goals as goal

pub returns-then-not-crossed-half-clause-value : goal.returns-then-not-crossed-half-clause-value
returns-then-not-crossed-half-clause-value c =
    let ts = c.args.edges.now.triples in
    let twinned = c.twins-twins.ensures.side.twinned in
    let back = (pair_up ts twinned.three twinned.closed).pairs c.args.half c.requires.half in
    sym (not_crossed (all_edges ts) c.args.hits.now c.args.crossed.now c.args.half back c.requires.crossed c.if-not-crossed-half.true)

pub twin-twin-requires : goal.twin-twin-requires
twin-twin-requires c = omega (arith, c.requires.half, length-all_edges c.args.edges.now.triples, ap length c.twins-twins.ensures.triples)

-- an upper half-edge has the sum of its edge, turned
upper_total : (es : List (ℕ × ℕ)) (hits : List Hit) (h : ℕ) → twin es h ≤ h → half_total es hits h ≡ neg_ℤ (edge_total hits (twin es h))
upper_total es hits h upper = ap (λ b. if b then edge_total hits h else neg_ℤ (edge_total hits (twin es h))) (le-ltb h (twin es h) upper)

pub returns-else-half-twin-clause-value : goal.returns-else-half-twin-clause-value
returns-else-half-twin-clause-value c =
    let es = all_edges c.args.edges.now.triples in
    let hits = c.args.hits.now in
    let same : c.twin-twin.result ≡ twin es c.args.half = c.twin-twin.ensures.value ∙ ap (λ (ts : List Triple). twin (all_edges ts) c.args.half) c.twins-twins.ensures.triples in
    let total = upper_total es hits c.args.half (omega (arith, same, c.if-half-twin.false)) in
    omega (arith, ints, total, ap (edge_total hits) same, c.edge_total-else-half-twin.ensures.value, c.edge_total-else-half-twin.ensures.size)
