use Rattle.std.proofs.Common.{◌≡◌, take}
use Rattle.face_plane.specs.Planes.{face_plane}
use Rattle.loop_ring.specs.Turning.{turned_to}
use Rattle.ring_cutting.specs.Placed.{vertices_of, IsPlaced}
use Rattle.ring_cutting.proofs.place.placed.Given as goal

-- the places so far, and the ring with its cursor at the next one
abbrev pub invariant-loop : goal.invariant-loop
invariant-loop l = record {
  vertices : vertices_of l.places.items ≡ take l.counter l.initial.ring;
  at : IsPlaced (face_plane l.plane.drop l.turned l.points) l.places.items;
  ring : l.ring ≡ turned_to l.counter l.initial.ring;
}
