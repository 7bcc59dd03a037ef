use Rattle.std.proofs.Common.{◌-◌, length}
use Rattle.chain_terms.specs.Chains.{all_edges}
use Rattle.mesh_terms.specs.Meshes.{triples_of}
use Rattle.spanning_forest.proofs.Growing.{IsGrowing}
use Rattle.spanning_forest.proofs.walk.leave_all.Given as goal

abbrev pub invariant-loop-next : goal.invariant-loop-next
invariant-loop-next l = IsGrowing (all_edges (triples_of l.triples)) l.fn.seen l.fn.entrances.items l.seen l.entrances.items l.next

abbrev pub decreases-loop-next : goal.decreases-loop-next
decreases-loop-next l = length l.seen - l.next
