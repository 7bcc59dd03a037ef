use Rattle.std.proofs.Common.{map, take, ◌≡◌}
use Rattle.std.specs.List.{All, flat_map}
use Rattle.face_plane.specs.Planes.{face_plane}
use Rattle.mesh_terms.specs.Points.{IsOnGrid}
use Rattle.sheet_terms.specs.Chains.{crossing_point}
use Rattle.plane_chains.specs.EdgeBoxes.{pair_of}
use Rattle.plane_chains.specs.Pairs.{edge_at}
use Rattle.plane_chains.proofs.grid_crossings.grid_points.Given as goal

abbrev pub invariant-loop-pair : goal.invariant-loop-pair
invariant-loop-pair l = record {
  points : l.found.items ≡ flat_map (λ p. crossing_point l.flat.points.now (face_plane l.flat.plane.drop l.flat.turned l.flat.points.now)
      (edge_at (map pair_of l.edges) (pair_of p).0) (edge_at (map pair_of l.edges) (pair_of p).1)) (take l.pair-index l.pairs);
  grid : All (All IsOnGrid) l.found.items;
}
