use Rattle.std.proofs.Common.{◌+◌, length}
use Rattle.mesh_terms.specs.Meshes.{triples_of}
use Rattle.mesh_check.specs.Cancelling.{bucket_of_end, AreMarked}
use Rattle.mesh_check.specs.Orientations.{orientation_edges}
use Rattle.mesh_check.proofs.cancel.uncancelled.Given as goal

-- the triangles of the first k buckets are done
abbrev pub invariant-loop-k : goal.invariant-loop-k
invariant-loop-k l = AreMarked (orientation_edges (triples_of l.triples)) (bucket_of_end (length l.triples + 1)) l.k l.left.items
