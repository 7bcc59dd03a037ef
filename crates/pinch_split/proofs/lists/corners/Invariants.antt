use Rattle.std.proofs.Common.{◌≡◌}
use Rattle.mesh_terms.specs.Meshes.{triples_of}
use Rattle.pinch_split.specs.Given.{corners}
use Rattle.pinch_split.proofs.lists.corners.Given as goal

-- the triangles so far
abbrev pub invariant-loop-t : goal.invariant-loop-t
invariant-loop-t l = triples_of l.triples.items ≡ corners l.of l.t
