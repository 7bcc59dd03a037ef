use Rattle.std.proofs.Common.{◌+◌, ◌≤◌, length, vec_len}
use Rattle.mesh_terms.specs.Meshes.{triples_of}
use Rattle.face_plane.specs.Planes.{Plane}
use Rattle.face_plane.specs.Rings.{IsRing}
use Rattle.ring_cutting.specs.Placed.{vertices_of, IsPlaced}
use Rattle.ring_cutting.proofs.UnderWay.{IsUnderWay}
use Rattle.ring_cutting.proofs.cutting.cut_down.Given as goal

-- the places left are a ring, whose cutting completes the whole one
abbrev pub invariant-loop-places : goal.invariant-loop-places
invariant-loop-places l = record {
  ringy : IsRing (vertices_of l.places.items);
  few : l.forced + length l.places.items ≤ 100000000;
  goes : (at : Plane) → IsPlaced at l.initial.places.items →
      IsUnderWay at (vertices_of l.initial.places.items) l.places.items (triples_of l.triples.items) l.forced;
}

abbrev pub decreases-loop-places : goal.decreases-loop-places
decreases-loop-places l = vec_len l.places
