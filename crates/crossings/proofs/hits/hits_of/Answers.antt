use Rattle.std.proofs.Common.{◌≡◌, ◌*◌, length, arith, ap, ◌∙◌}
use Rattle.std.proofs.lemmas.List.{length-map}
use Rattle.chain_terms.specs.Chains.{all_edges}
use Rattle.halfedge.proofs.Edges.{length-all_edges}
use Rattle.mesh_terms.specs.Meshes.{triple_of}
use Rattle.crossings.specs.Hits.{hits_before}
use Rattle.crossings.proofs.hits.hits_of.Goals as goal

pub returns : goal.returns
returns g c =
    let edges = c.args.edges.now in
    let all : 3 * c.loop-from.from ≡ length (all_edges edges.triples) =
    omega (arith, ap length c.triples.ensures.value, length-map c.triples.result.now triple_of, length-all_edges edges.triples, c.loop-from.invariant.within) in
    c.loop-from.invariant.hits ∙ ap (hits_before (g.C.EdgeFace.crossing_of c.args.pairs.now) edges c.args.faces.now) all
