use Rattle.std.proofs.Common.{◌≡◌, take}
use Rattle.std.specs.List.{All}
use Rattle.mesh_terms.specs.Points.{IsPoint}
use Rattle.stl_text.proofs.welded.Welded.into_points.Given as goal

-- the points so far are the first ones
abbrev pub invariant-loop-at : goal.invariant-loop-at
invariant-loop-at l = record {
  points : l.points.items ≡ take l.at-index l.at-items;
  on_grid : All IsPoint l.at-items;
}
