-- Which points triangles use, and how these are numbered.
use Rattle.std.specs.Prelude.{◌≡◌, ℕ, ◌<◌, ◌≤◌, List, Bool, false, length, get_or, map}
use Rattle.std.specs.List.{All}
use Rattle.mesh_terms.specs.Limits.{most_points, most_triangles}
use Rattle.mesh_terms.specs.Meshes.{Triple, HasThree, IsBelow, is_used, new_number}

-- each triangle names three different points, and neither are too many
pub record IsSound (points : ℕ) (ts : List Triple) : Type 0 where
  pub three : All HasThree ts
  pub below : All (IsBelow points) ts
  pub few_points : points ≤ most_points
  pub few_triples : length ts ≤ most_triangles

-- a mark for each of so many points, set where a triangle has the point
pub record MarksUsed (count : ℕ) (ts : List Triple) (marks : List Bool) : Type 0 where
  pub each : length marks ≡ count
  pub used : (v : ℕ) → v < count → get_or marks v false ≡ is_used ts v

-- for each of so many points how many used ones stand before it
pub record NumbersUsed (count : ℕ) (ts : List Triple) (numbers : List ℕ) : Type 0 where
  pub each : length numbers ≡ count
  pub number : (v : ℕ) → v < count → get_or numbers v 0 ≡ new_number ts v

-- triangles with the new numbers of their points
abbrev pub renamed : List Triple → List Triple → List Triple
renamed ts us = map (λ u. (new_number ts u.0, new_number ts u.1, new_number ts u.2)) us
