-- The triangles of a mesh as places in space, and which of them are flat.
use Rattle.std.specs.Prelude.{ℕ, ℤ, pos, List, [], Bool, ◌&&◌, get_or}
use Rattle.std.specs.Ordering.{int_eq}
use Rattle.mesh_terms.specs.Meshes.{Mesh, Triple}
use Rattle.mesh_terms.specs.Points.{coordinate_of}
use Rattle.plane_laws.specs.Decisions.{Vector, face_normal}

-- a point as a place in space
abbrev pub place_of : List ℤ → Vector
place_of p = record { x = coordinate_of p 0; y = coordinate_of p 1; z = coordinate_of p 2 }

-- the place of point v
abbrev pub place_at : List (List ℤ) → ℕ → Vector
place_at points v = place_of (get_or points v [])

-- the places of three corners
abbrev pub Corners : Type 0
Corners = Vector × Vector × Vector

-- those of a triple
abbrev pub corners_of : List (List ℤ) → Triple → Corners
corners_of points v = (place_at points v.0, place_at points v.1, place_at points v.2)

-- those of triangle t
abbrev pub corners_at : Mesh → ℕ → Corners
corners_at m t = corners_of m.points (get_or m.triples t (0, 0, 0))

-- all three numbers are 0
abbrev pub is_nothing : Vector → Bool
is_nothing v = int_eq v.x (pos 0) && int_eq v.y (pos 0) && int_eq v.z (pos 0)

-- the corners lie on a line, or at one place: the cross product is 0
abbrev pub is_flat : Corners → Bool
is_flat t = is_nothing (face_normal t.0 t.1 t.2)
