-- Meshes within limits.
use Rattle.std.specs.Prelude.{◌≤◌, ℤ, List, length}
use Rattle.std.specs.List.{All}
use Rattle.mesh_terms.specs.Limits.{Limits}
use Rattle.mesh_terms.specs.Meshes.{Triple, IsMesh}
use Rattle.mesh_terms.specs.Points.{IsPoint}

-- points of the grid, triples of three different ones of them, each point used, both counts within the limits
pub record IsWithin (limits : Limits) (points : List (List ℤ)) (ts : List Triple) : Type 0 where
  pub on_grid : All IsPoint points
  pub mesh : IsMesh (length points) ts
  pub few_points : length points ≤ limits.points
  pub few_triples : length ts ≤ limits.triangles
