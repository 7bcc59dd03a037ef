-- Closed triangles over so many points, each of which is used.
use Rattle.std.specs.Prelude.{◌≡◌, ℕ, ◌<◌, ◌≤◌, ℤ, List, true, length}
use Rattle.std.specs.List.{All}
use Rattle.chain_terms.specs.Chains.{all_edges, IsClosed}
use Rattle.made_terms.specs.Refusals.{all_on_grid}
use Rattle.mesh_terms.specs.Limits.{most_points, most_triangles}
use Rattle.mesh_terms.specs.Meshes.{Triple, HasThree, IsBelow, is_used}

-- all that a mesh asks of its triangles but that they are few
pub record IsSolid (points : ℕ) (ts : List Triple) : Type 0 where
  pub three : All HasThree ts
  pub below : All (IsBelow points) ts
  pub used : (v : ℕ) → v < points → is_used ts v ≡ true
  pub closed : IsClosed (all_edges ts)

-- few enough for any mesh
pub record AreFew (points triangles : ℕ) : Type 0 where
  pub few_points : points ≤ most_points
  pub few_triangles : triangles ≤ most_triangles

-- rows on the grid that are few enough, as so many triangles are
pub record AreFine (rows : List (List ℤ)) (triangles : ℕ) : Type 0 where
  pub on_grid : all_on_grid rows ≡ true
  pub few : AreFew (length rows) triangles
