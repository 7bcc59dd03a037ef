use Rattle.std.proofs.Common.{◌≡◌, take, map}
use Rattle.mesh_make.specs.Moves.{moves}
use Rattle.mesh_make.proofs.motions.grid.moved_points.Given as goal

abbrev pub invariant-loop-point : goal.invariant-loop-point
invariant-loop-point l = l.moved.items ≡ map (moves l.motion) (take l.point-index l.points)
