use Rattle.std.proofs.Common.{◌≡◌, ◌+◌}
use Rattle.source_faces.specs.Groups.{earlier}
use Rattle.mesh_terms.specs.Meshes.{triples_of}
use Rattle.mesh_boolean.specs.BoundedFaces.{HaveBoundariesFrom}
use Rattle.mesh_boolean.proofs.bounded.all.end_of_bounded.Given as goal

-- the triangles of the faces so far are bounded, and the records of the next one come next
abbrev pub invariant-loop-face : goal.invariant-loop-face
invariant-loop-face l = record {
  next : l.begin ≡ earlier l.stands (l.first + l.face);
  bounded : HaveBoundariesFrom l.side l.runs l.points l.first l.stands (triples_of l.triples) l.places l.face;
}
