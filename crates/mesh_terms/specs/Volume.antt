-- Six times the volume that triangles enclose, as a sum of determinants.
use Rattle.std.specs.Prelude.{ℕ, ℤ, ◌+ℤ◌, ◌-ℤ◌, ◌*ℤ◌, List, [], get_or}
use Rattle.chain_terms.specs.Sums.{total}
use Rattle.mesh_terms.specs.Meshes.{Triple}
use Rattle.mesh_terms.specs.Points.{coordinate_of}

-- the determinant of two points on two axes
abbrev pub minor : List ℤ → List ℤ → ℕ → ℕ → ℤ
minor b c i j = coordinate_of b i *ℤ coordinate_of c j -ℤ coordinate_of b j *ℤ coordinate_of c i

-- the determinant with three points as its rows
abbrev pub determinant : List ℤ → List ℤ → List ℤ → ℤ
determinant a b c = (coordinate_of a 0 *ℤ minor b c 1 2 +ℤ coordinate_of a 1 *ℤ minor b c 2 0) +ℤ coordinate_of a 2 *ℤ minor b c 0 1

-- the determinant of the points of a triangle
abbrev pub triangle_determinant : List (List ℤ) → Triple → ℤ
triangle_determinant points t = determinant (get_or points t.0 []) (get_or points t.1 []) (get_or points t.2 [])

-- the sum over all triangles
abbrev pub volume6_of : List (List ℤ) → List Triple → ℤ
volume6_of points ts = total (triangle_determinant points) ts
