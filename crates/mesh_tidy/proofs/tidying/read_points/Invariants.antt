use Rattle.std.proofs.Common.{◌≡◌, length, take}
use Rattle.std.specs.List.{All}
use Rattle.mesh_tidy.proofs.tidying.read_points.Given as goal

-- those so far
abbrev pub invariant-loop-point : goal.invariant-loop-point
invariant-loop-point l = All (λ p. length p ≡ 3) (take l.point-index l.points)
