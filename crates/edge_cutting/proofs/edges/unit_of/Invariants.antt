use Rattle.std.proofs.Common.{◌<◌, ℕ}
use Rattle.face_plane.specs.Planes.{point_at}
use Rattle.edge_cutting.specs.Spans.{AreMultiples}
use Rattle.edge_cutting.proofs.edges.unit_of.Given as goal

-- the steps from the first point to those so far are multiples
abbrev pub invariant-loop-point : goal.invariant-loop-point
invariant-loop-point l = (v : ℕ) → v < l.point-index → AreMultiples l.unit (point_at l.points 0) (point_at l.points v)
