use Rattle.std.proofs.Common.{take}
use Rattle.chain_terms.specs.Chains.{all_edges}
use Rattle.mesh_terms.specs.Meshes.{triples_of}
use Rattle.spanning_forest.specs.Walks.{AreReached}
use Rattle.spanning_forest.proofs.walk.enter_ends.Given as goal

abbrev pub invariant-loop-half : goal.invariant-loop-half
invariant-loop-half l = AreReached (all_edges (triples_of l.triples)) (take l.half-index l.halves) l.initial.seen l.initial.entrances.items l.seen l.entrances.items
