use Rattle.std.proofs.Common.{arith, subst}
use Rattle.chain_terms.specs.Chains.{all_edges}
use Rattle.mesh_terms.specs.Meshes.{triples_of}
use Rattle.spanning_forest.specs.Walks.{Lies}
use Rattle.spanning_forest.proofs.Spokes.{length-halves}
use Rattle.spanning_forest.proofs.walk.entered.Goals as goal

pub end_of-requires : goal.end_of-requires
end_of-requires c =
    let triples = c.args.triples.now in
    let lies = subst (Lies (all_edges (triples_of triples))) c.in-Along.is c.requires in
    omega (arith, lies, length-halves triples)
