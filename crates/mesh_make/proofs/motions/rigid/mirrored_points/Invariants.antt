use Rattle.std.proofs.Common.{◌≡◌, take, map}
use Rattle.made_terms.specs.Motions.{mirrored}
use Rattle.mesh_make.proofs.motions.rigid.mirrored_points.Given as goal

abbrev pub invariant-loop-point : goal.invariant-loop-point
invariant-loop-point l = l.moved.items ≡ map (mirrored l.axis) (take l.point-index l.points)
