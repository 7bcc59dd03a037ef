use Rattle.std.proofs.Common.{length}
use Rattle.chain_terms.specs.Chains.{all_edges}
use Rattle.mesh_terms.specs.Meshes.{triples_of}
use Rattle.spanning_forest.proofs.Components.{AreWalked}
use Rattle.spanning_forest.proofs.enter_rest.Given as goal

abbrev pub invariant-loop-vertex : goal.invariant-loop-vertex
invariant-loop-vertex l = AreWalked (all_edges (triples_of l.triples)) (length l.fn.seen) l.vertex l.seen l.entrances.items
