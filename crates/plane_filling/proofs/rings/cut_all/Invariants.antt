use Rattle.std.proofs.Common.{length}
use Rattle.mesh_terms.specs.Meshes.{triples_of}
use Rattle.face_plane.specs.Planes.{face_plane}
use Rattle.triangulate.proofs.CutRings.{AreUnderWay}
use Rattle.plane_filling.proofs.rings.cut_all.Given as goal

-- the rings so far are cut, and none of their triangles is forced
abbrev pub invariant-loop-ring : goal.invariant-loop-ring
invariant-loop-ring l = AreUnderWay (face_plane l.plane.drop l.turned l.points) l.fn.rings.items (length l.yielded) (triples_of l.triples.items) 0
