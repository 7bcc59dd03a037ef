-- Worked rows of tidying, computed.
use Rattle.std.proofs.Common.{◌≡◌, ℕ, ℤ, pos, List, [], ◌∷◌, refl}
use Rattle.mesh_terms.specs.Meshes.{Mesh}
use Rattle.tidy_terms.specs.Tidy.{tidied, tidy_mesh}

abbrev pub point : ℕ → ℕ → ℕ → List ℤ
point x y z = pos x ∷ pos y ∷ pos z ∷ []

-- a label of one letter
abbrev pub letter : ℕ → List ℕ
letter l = l ∷ []

-- a tetrahedron whose last corner stands twice, with a label for each triangle
abbrev pub split_tetra : Mesh
split_tetra = record {
  points = point 0 0 0 ∷ point 1 0 0 ∷ point 0 1 0 ∷ point 0 0 1 ∷ point 0 0 1 ∷ [];
  triples = (0, 2, 1) ∷ (3, 1, 4) ∷ (0, 1, 3) ∷ (1, 2, 4) ∷ (0, 3, 4) ∷ (2, 0, 4) ∷ [];
  labels = letter 97 ∷ letter 98 ∷ letter 99 ∷ letter 100 ∷ letter 101 ∷ letter 102 ∷ [];
}

-- is a tetrahedron after one collapse
pub one_collapse : (tidied split_tetra.points split_tetra.triples split_tetra.labels).collapses ≡ 1
one_collapse = refl

pub a_tetra :
    tidy_mesh split_tetra
    ≡ record {
      points = point 0 0 0 ∷ point 1 0 0 ∷ point 0 1 0 ∷ point 0 0 1 ∷ [];
      triples = (0, 2, 1) ∷ (0, 1, 3) ∷ (1, 2, 3) ∷ (2, 0, 3) ∷ [];
      labels = letter 97 ∷ letter 99 ∷ letter 100 ∷ letter 102 ∷ [];
    }
a_tetra = refl

-- a tetrahedron whose corners lie at one point
abbrev pub flat_tetra : Mesh
flat_tetra = record {
  points = point 0 0 0 ∷ point 0 0 0 ∷ point 0 0 0 ∷ point 0 0 0 ∷ [];
  triples = (0, 2, 1) ∷ (0, 1, 3) ∷ (1, 2, 3) ∷ (2, 0, 3) ∷ [];
  labels = letter 97 ∷ letter 98 ∷ letter 99 ∷ letter 100 ∷ [];
}

-- is two opposite triangles after one collapse
pub flat_collapse : (tidied flat_tetra.points flat_tetra.triples flat_tetra.labels).collapses ≡ 1
flat_collapse = refl

pub two_triangles :
    tidy_mesh flat_tetra
    ≡ record { points = point 0 0 0 ∷ point 0 0 0 ∷ point 0 0 0 ∷ []; triples = (0, 1, 2) ∷ (1, 0, 2) ∷ []; labels = letter 98 ∷ letter 99 ∷ [] }
two_triangles = refl
