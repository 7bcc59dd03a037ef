use Rattle.chain_terms.specs.Chains.{all_edges}
use Rattle.mesh_terms.specs.Meshes.{triples_of}
use Rattle.spanning_forest.specs.Walks.{AreMore}
use Rattle.spanning_forest.proofs.passes.enter_along.Given as goal

abbrev pub invariant-loop-place : goal.invariant-loop-place
invariant-loop-place l = AreMore (all_edges (triples_of l.triples)) l.fn.seen l.fn.entrances.items l.seen l.entrances.items
