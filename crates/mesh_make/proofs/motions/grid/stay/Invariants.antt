use Rattle.std.proofs.Common.{◌≡◌, drop, map}
use Rattle.made_terms.specs.Refusals.{all_on_grid}
use Rattle.mesh_make.specs.Moves.{moves}
use Rattle.mesh_make.proofs.motions.grid.stay.Given as goal

abbrev pub invariant-loop-point : goal.invariant-loop-point
invariant-loop-point l = all_on_grid (map (moves l.motion) l.points) ≡ all_on_grid (map (moves l.motion) (drop l.point-index l.points))
