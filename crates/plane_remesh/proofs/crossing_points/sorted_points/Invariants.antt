use Rattle.std.proofs.Common.{◌≡◌, take}
use Rattle.std.specs.List.{All}
use Rattle.mesh_terms.specs.Points.{IsPoint}
use Rattle.plane_remesh.proofs.crossing_points.sorted_points.Given as goal

-- the points so far
abbrev pub invariant-loop-at : goal.invariant-loop-at
invariant-loop-at l = record {
  points : l.points.items ≡ take l.at-index l.at-items;
  grid : All IsPoint (take l.at-index l.at-items);
}
