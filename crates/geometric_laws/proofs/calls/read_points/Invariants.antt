use Rattle.std.proofs.Common.{take}
use Rattle.std.specs.List.{All}
use Rattle.mesh_terms.specs.Points.{IsPoint}
use Rattle.geometric_laws.proofs.calls.read_points.Given as goal

-- the points so far
abbrev pub invariant-loop-point : goal.invariant-loop-point
invariant-loop-point l = All IsPoint (take l.point-index l.points)
