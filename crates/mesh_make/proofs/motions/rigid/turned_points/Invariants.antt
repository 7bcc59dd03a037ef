use Rattle.std.proofs.Common.{◌≡◌, take, map}
use Rattle.made_terms.specs.Motions.{quarter_turned}
use Rattle.mesh_make.proofs.motions.rigid.turned_points.Given as goal

abbrev pub invariant-loop-point : goal.invariant-loop-point
invariant-loop-point l = l.moved.items ≡ map (quarter_turned l.axis) (take l.point-index l.points)
