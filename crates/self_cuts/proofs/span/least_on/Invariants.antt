use Rattle.std.proofs.Common.{◌≡◌, pos, take, map, get_or}
use Rattle.std.specs.Int.{int_min}
use Rattle.std.specs.List.{fold}
use Rattle.mesh_terms.specs.Points.{IsOnGrid, coordinate_of}
use Rattle.self_cuts.proofs.span.least_on.Given as goal

abbrev pub invariant-loop-point : goal.invariant-loop-point
invariant-loop-point l = record {
  value : l.least ≡ fold int_min (get_or (map (λ p. coordinate_of p l.axis) l.points) 0 (pos 0)) (take l.point-index (map (λ p. coordinate_of p l.axis) l.points));
  on_grid : IsOnGrid l.least;
}
