-- Closed triangles with the twins of their half-edges.
use Rattle.std.specs.Prelude.{◌≡◌, ℕ, ◌≤◌, List, length, map}
use Rattle.std.specs.List.{All}
use Rattle.chain_terms.specs.Chains.{all_edges, IsClosed}
use Rattle.chain_terms.specs.Ranks.{twin}
use Rattle.chain_terms.specs.Sums.{upto}
use Rattle.mesh_terms.specs.Limits.{most_triangles}
use Rattle.mesh_terms.specs.Meshes.{Triple, HasThree}

-- triangles, and the twin of each half-edge
pub record Twins : Type 0 where
  pub triples : List Triple
  pub twins : List ℕ

-- the twin of each half-edge of triangles
abbrev pub twins_of : List Triple → List ℕ
twins_of ts = map (twin (all_edges ts)) (upto (length (all_edges ts)))

-- the triangles are closed and each has three different vertices; the list has the twin of each half-edge
pub record IsTwinned (ts : List Triple) (twins : List ℕ) : Type 0 where
  pub few : length ts ≤ most_triangles
  pub three : All HasThree ts
  pub closed : IsClosed (all_edges ts)
  pub each : twins ≡ twins_of ts
