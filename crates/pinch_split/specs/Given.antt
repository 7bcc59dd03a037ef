-- A mesh that has one vertex for each fan of given lists.
use Rattle.std.specs.Prelude.{ℕ, ℤ, List, [], map, get_or}
use Rattle.chain_terms.specs.Chains.{all_edges}
use Rattle.chain_terms.specs.Ranks.{start}
use Rattle.chain_terms.specs.Sums.{upto}
use Rattle.mesh_terms.specs.Meshes.{Triple}
use Rattle.pinch_split.specs.Split.{corner_values}

-- the triangles whose corners are the fans of the first n triangles
abbrev pub corners : List ℕ → ℕ → List Triple
corners of n = map (corner_values (λ h. get_or of h 0)) (upto n)

-- the vertices where the half-edges start
abbrev pub starts_of : List Triple → List ℕ → List ℕ
starts_of ts first = map (start (all_edges ts)) first

-- the points of the vertices
abbrev pub points_of : List (List ℤ) → List ℕ → List (List ℤ)
points_of points from = map (λ v. get_or points v []) from
