use Rattle.std.proofs.Common.{length}
use Rattle.chain_terms.specs.Chains.{all_edges}
use Rattle.mesh_terms.specs.Meshes.{triples_of}
use Rattle.spanning_forest.specs.Walks.{AreBegun}
use Rattle.spanning_forest.proofs.passes.enter_first.Given as goal

abbrev pub invariant-loop-pass : goal.invariant-loop-pass
invariant-loop-pass l = AreBegun (all_edges (triples_of l.triples)) (length l.fn.seen) l.seen l.entrances.items
