use Rattle.std.proofs.Common.{◌≡◌, map, take}
use Rattle.face_plane.specs.Planes.{point_at}
use Rattle.angle_pairing.proofs.parting.points_at.Given as goal

-- the points so far
abbrev pub invariant-loop-vertex : goal.invariant-loop-vertex
invariant-loop-vertex l = l.chosen.items ≡ map (point_at l.points) (take l.vertex-index l.vertices)
