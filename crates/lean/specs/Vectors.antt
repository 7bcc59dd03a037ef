-- Vectors of three coordinates: their sums and their sizes.
use Rattle.std.specs.Prelude.{ℕ, ◌≤◌, ℤ, ◌+ℤ◌, List, [], ◌∷◌, get_or, set, unsigned_abs}
use Rattle.mesh_terms.specs.Meshes.{Triple}
use Rattle.mesh_terms.specs.Points.{coordinate_of}

-- the sum of two vectors
abbrev pub added : List ℤ → List ℤ → List ℤ
added a b =
    (coordinate_of a 0 +ℤ coordinate_of b 0) ∷ (coordinate_of a 1 +ℤ coordinate_of b 1) ∷ (coordinate_of a 2 +ℤ coordinate_of b 2) ∷ []

-- a list of vectors with one more added at a place
abbrev pub added_at : List (List ℤ) → ℕ → List ℤ → List (List ℤ)
added_at sums v n = set sums v (added (get_or sums v []) n)

-- and at the three places of a triangle, one after the other
abbrev pub added_at_corners : List (List ℤ) → Triple → List ℤ → List (List ℤ)
added_at_corners sums t n = added_at (added_at (added_at sums t.0 n) t.1 n) t.2 n

-- each coordinate is at most n in size
pub record AreSmall (n : ℕ) (a : List ℤ) : Type 0 where
  pub x : unsigned_abs (coordinate_of a 0) ≤ n
  pub y : unsigned_abs (coordinate_of a 1) ≤ n
  pub z : unsigned_abs (coordinate_of a 2) ≤ n

-- each coordinate of each vector is
abbrev pub AllSmall : ℕ → List (List ℤ) → Type 0
AllSmall n sums = (v : ℕ) → AreSmall n (get_or sums v [])
