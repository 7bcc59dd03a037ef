-- Triangles over the places of their corners.
use Rattle.std.specs.Prelude.{◌≡◌, ℕ, List, map, filter, length, get_or}
use Rattle.chain_terms.specs.Sums.{upto}
use Rattle.mesh_terms.specs.Meshes.{Triple}
use Rattle.sheet_terms.specs.Places.{has_three}

-- a triangle over the places that a list gives
abbrev pub over_of : List ℕ → Triple → Triple
over_of of v = (get_or of v.0 0, get_or of v.1 0, get_or of v.2 0)

-- triangle t of a list
abbrev pub over_at : List ℕ → List Triple → ℕ → Triple
over_at of ts t = over_of of (get_or ts t (0, 0, 0))

-- where the triangles stand that then have three places, and these triangles
pub record AreOver (of : List ℕ) (ts faces : List Triple) (kept : List ℕ) : Type 0 where
  pub sources : kept ≡ filter (λ t. has_three (over_at of ts t)) (upto (length ts))
  pub triples : faces ≡ map (over_at of ts) kept
