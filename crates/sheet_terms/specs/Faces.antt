-- The triangles of a mesh over its places, and the planes in which they lie.
use Rattle.std.specs.Prelude.{ℕ, ℤ, pos, List, Bool, not, ◌&&◌, int_lt, get_or, map, filter, length, bytes_eq}
use Rattle.std.specs.List.{flat_map}
use Rattle.std.specs.Ordering.{int_eq}
use Rattle.chain_terms.specs.Paths.{round_edges}
use Rattle.chain_terms.specs.Sums.{upto}
use Rattle.face_plane.specs.Planes.{Plane, face_plane, orient, plane_drop, point_at}
use Rattle.mesh_terms.specs.Labels.{label_at}
use Rattle.mesh_terms.specs.Meshes.{Mesh, Triple}
use Rattle.mesh_terms.specs.Points.{coordinate_of, cross_product}
use Rattle.sheet_terms.specs.Cuts.{are_in_line, rim, scalar}
use Rattle.sheet_terms.specs.Places.{firsts, has_three, place_at}

-- a triangle over places: its number in the mesh, its corners, its rim, its label
pub record Face : Type 0 where
  pub number : ℕ
  pub corners : Triple
  pub rim : List ℕ
  pub label : List ℕ

-- its corners lie on a line
abbrev pub is_flat : List (List ℤ) → Triple → Bool
is_flat points t = are_in_line (point_at points t.0) (point_at points t.1) (point_at points t.2)

-- a triangle over the places of its vertices
abbrev pub placed : List (List ℤ) → Mesh → Triple → Triple
placed points m t =
    let at : ℕ → ℕ = λ v. place_at points (point_at m.points v) in (at t.0, at t.1, at t.2)

-- triangle t of a mesh over places
abbrev pub face_of : List (List ℤ) → Mesh → ℕ → Face
face_of points m t =
    let v = placed points m (get_or m.triples t (0, 0, 0)) in record { number = t; corners = v; rim = rim points v; label = label_at m.labels t }

-- the triangles with three places that do not lie on a line; the others have a rim that is nothing as a chain
abbrev pub faces : List (List ℤ) → Mesh → List Face
faces points m = filter (λ f. has_three f.corners && not (is_flat points f.corners)) (map (face_of points m) (upto (length m.triples)))

-- the normal of its plane: the cross product of its points
abbrev pub normal : List (List ℤ) → Face → List ℤ
normal points f = cross_product (point_at points f.corners.0) (point_at points f.corners.1) (point_at points f.corners.2)

-- place v lies in the plane of s
abbrev pub lies_in : List (List ℤ) → Face → ℕ → Bool
lies_in points s v = let n = normal points s in int_eq (scalar n (point_at points v)) (scalar n (point_at points s.corners.0))

-- so do all three corners of f
abbrev pub in_plane : List (List ℤ) → Face → Face → Bool
in_plane points s f = lies_in points s f.corners.0 && lies_in points s f.corners.1 && lies_in points s f.corners.2

-- the axis that its plane drops
abbrev pub drop_of : List (List ℤ) → Face → ℕ
drop_of points s = plane_drop (point_at points s.corners.0) (point_at points s.corners.1) (point_at points s.corners.2)

-- the places seen in the plane of s from the side that s faces: s turns left there
abbrev pub seen : List (List ℤ) → Face → Plane
seen points s = let d = drop_of points s in face_plane d (int_lt (coordinate_of (normal points s) d) (pos 0)) points

-- a triangle turns left
abbrev pub is_left : Plane → Triple → Bool
is_left at t = int_lt (pos 0) (orient at t.0 t.1 t.2)

-- f lies in the plane of s and faces the same side
abbrev pub faces_as : List (List ℤ) → Face → Face → Bool
faces_as points s f = in_plane points s f && is_left (seen points s) f.corners

-- the first triangle of each plane, and of each side of one
abbrev pub planes : List (List ℤ) → List Face → List Face
planes points fs = firsts (in_plane points) fs

abbrev pub sides : List (List ℤ) → List Face → List Face
sides points fs = firsts (faces_as points) fs

-- the edges along the rims of triangles
abbrev pub rim_edges : List Face → List (ℕ × ℕ)
rim_edges fs = flat_map (λ f. round_edges f.rim) fs

-- the triangles with a label
abbrev pub labelled : List ℕ → List Face → List Face
labelled label fs = filter (λ f. bytes_eq f.label label) fs

-- the labels of triangles, in the order of the first triangle of each
abbrev pub labels_of : List Face → List (List ℕ)
labels_of fs = firsts bytes_eq (map (λ f. f.label) fs)
