-- Marks: the axes on which a vertex counts as moved up, from the triangles round it.
use Rattle.std.specs.Prelude.{ℕ, ℤ, pos, List, [], ◌∷◌, Bool, cond, int_lt, length, get_or, map}
use Rattle.chain_terms.specs.Sums.{total, upto}
use Rattle.mb_base.specs.declared.op.Op.{Op}
use Rattle.mb_base.specs.declared.op.Op.TheVariants.{Union, Intersect, Subtract}
use Rattle.mesh_terms.specs.Meshes.{Mesh, Triple, has}
use Rattle.mesh_terms.specs.Points.{coordinate_of, cross_product}

-- the cross product of a triangle's sides
abbrev pub face_normal : List (List ℤ) → Triple → List ℤ
face_normal points t = cross_product (get_or points t.0 []) (get_or points t.1 []) (get_or points t.2 [])

-- one coordinate of the sum of the cross products of the triangles at a vertex
abbrev pub normal_on : ℕ → List (List ℤ) → List Triple → ℕ → ℤ
normal_on axis points ts v = total (λ t. cond (has t v) (coordinate_of (face_normal points t) axis) (pos 0)) ts

-- the sum
abbrev pub vertex_normal : List (List ℤ) → List Triple → ℕ → List ℤ
vertex_normal points ts v = normal_on 0 points ts v ∷ normal_on 1 points ts v ∷ normal_on 2 points ts v ∷ []

-- the sums at all vertices
abbrev pub normals_of : List (List ℤ) → List Triple → List (List ℤ)
normals_of points ts = map (vertex_normal points ts) (upto (length points))

-- for a union up where the sum is above 0, for the other two where it is below
abbrev pub is_up : Op → ℤ → Bool
is_up Union n = int_lt (pos 0) n
is_up Intersect n = int_lt n (pos 0)
is_up Subtract n = int_lt n (pos 0)

-- the marks of all vertices
abbrev pub leans_of : Op → Mesh → List (List Bool)
leans_of op mesh = map (map (is_up op)) (normals_of mesh.points mesh.triples)
