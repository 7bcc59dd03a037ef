use Rattle.std.proofs.Common.{rules, length, ap, arith}
use Rattle.std.proofs.lemmas.List.{length-map}
use Rattle.chain_terms.specs.Chains.{all_edges}
use Rattle.mesh_terms.specs.Meshes.{triple_of}
use Rattle.halfedge.specs.Laws.{AreSingle}
use Rattle.halfedge.proofs.Edges.{length-all_edges}
use Rattle.mesh_check.proofs.Across.{none_opposite}
use Rattle.mesh_check.proofs.opposites.has_no_opposites.Goals as goal

pub third_vertex-requires : goal.third_vertex-requires
third_vertex-requires c = let within = c.twin.ensures.back.within in omega (arith, within, length-all_edges c.args.twins.now.triples)

pub returns : goal.returns
returns c known =
    let ts = c.args.twins.now.triples in
    let single : AreSingle (all_edges ts) = search rules in
    none_opposite ts c.triples.ensures.twinned.closed single
    (λ i low. c.loop-triangle.invariant i (omega (arith, low, c.loop-triangle-test.false, ap length c.triples.ensures.value, length-map c.triples.result.now triple_of)))
