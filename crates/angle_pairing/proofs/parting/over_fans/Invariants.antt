use Rattle.std.proofs.Common.{◌≡◌}
use Rattle.mesh_terms.specs.Meshes.{triples_of}
use Rattle.sheet_terms.specs.Vertices.{over_fans}
use Rattle.angle_pairing.proofs.parting.over_fans.Given as goal

-- the triangles so far
abbrev pub invariant-loop-t : goal.invariant-loop-t
invariant-loop-t l = triples_of l.triples.items ≡ over_fans l.of l.t
