-- Boxes along the axes, tetrahedra and prisms with a right angle: their points, and their triangles over these.
use Rattle.std.specs.Prelude.{ℤ, pos, ◌+ℤ◌, List, [], ◌∷◌, ◌++◌}
use Rattle.mesh_terms.specs.Meshes.{Triple}
use Rattle.mesh_terms.specs.Points.{coordinate_of}

abbrev pub point : ℤ → ℤ → ℤ → List ℤ
point x y z = x ∷ y ∷ z ∷ []

-- the four corners of a box at a height: front left, front right, back left, back right
abbrev pub box_level : List ℤ → List ℤ → ℤ → List (List ℤ)
box_level low high z =
    point (coordinate_of low 0) (coordinate_of low 1) z ∷ point (coordinate_of high 0) (coordinate_of low 1) z ∷ point (coordinate_of low 0)
    (coordinate_of high 1) z ∷ point (coordinate_of high 0) (coordinate_of high 1) z ∷ []

-- the box between two opposite corners: the corners at the bottom, then those at the top
abbrev pub box_points : List ℤ → List ℤ → List (List ℤ)
box_points low high = box_level low high (coordinate_of low 2) ++ box_level low high (coordinate_of high 2)

-- two triangles for each side: bottom, top, front, right, back, left
abbrev pub box_triples : List Triple
box_triples =
    (0, 3, 1) ∷ (0, 2, 3) ∷ (4, 5, 7) ∷ (4, 7, 6) ∷ (0, 1, 4) ∷ (1, 5, 4) ∷ (1, 3, 7) ∷ (1, 7, 5) ∷ (3, 2, 6) ∷ (3, 6, 7) ∷ (0, 4, 6) ∷ (0, 6, 2) ∷ []

-- a point that x, y and z are added to
abbrev pub moved : ℤ → ℤ → ℤ → List ℤ → List ℤ
moved x y z p = point (coordinate_of p 0 +ℤ x) (coordinate_of p 1 +ℤ y) (coordinate_of p 2 +ℤ z)

-- the corner of the tetrahedron, and one further along each axis
abbrev pub tetra_points : List ℤ → ℤ → List (List ℤ)
tetra_points at size = moved (pos 0) (pos 0) (pos 0) at ∷ moved size (pos 0) (pos 0) at ∷ moved (pos 0) size (pos 0) at ∷ moved (pos 0) (pos 0) size at ∷ []

abbrev pub tetra_triples : List Triple
tetra_triples = (0, 2, 1) ∷ (0, 1, 3) ∷ (1, 2, 3) ∷ (2, 0, 3) ∷ []

-- the triangle of the prism at a height over its corner
abbrev pub prism_level : List ℤ → ℤ → ℤ → List (List ℤ)
prism_level at size height = moved (pos 0) (pos 0) height at ∷ moved size (pos 0) height at ∷ moved (pos 0) size height at ∷ []

-- that at the bottom, then that at the top
abbrev pub prism_points : List ℤ → ℤ → ℤ → List (List ℤ)
prism_points at size height = prism_level at size (pos 0) ++ prism_level at size height

-- bottom, top, and two for each side
abbrev pub prism_triples : List Triple
prism_triples = (0, 2, 1) ∷ (3, 4, 5) ∷ (0, 1, 4) ∷ (0, 4, 3) ∷ (1, 2, 5) ∷ (1, 5, 4) ∷ (2, 0, 3) ∷ (2, 3, 5) ∷ []
