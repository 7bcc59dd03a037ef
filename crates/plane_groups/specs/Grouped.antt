-- Triangles gathered by their planes.
use Rattle.std.specs.Prelude.{◌≡◌, ℕ, ◌+◌, ◌<◌, ℤ, List, [], Bool, false, not, filter, get_or, length, map}
use Rattle.std.specs.List.{All}
use Rattle.sheet_terms.specs.Faces.{Face, in_plane, is_flat, normal, planes}
use Rattle.sheet_terms.specs.Twins.{is_up}
use Rattle.plane_groups.specs.declared.planes.Planes.{Planes}

-- no triangle
abbrev pub no_face : Face
no_face = record { number = 0; corners = (0, 0, 0); rim = []; label = [] }

-- triangle t of some
abbrev pub face_at : List Face → ℕ → Face
face_at all t = get_or all t no_face

-- those whose corners don't lie on a line
abbrev pub bent : List (List ℤ) → List Face → List Face
bent points all = filter (λ f. not (is_flat points f.corners)) all

-- a triangle faces the front of its plane
abbrev pub is_front : List (List ℤ) → Face → Bool
is_front points f = is_up (normal points f)

-- the triangles of plane k
abbrev pub faces_in : Planes → ℕ → List ℕ
faces_in p k = get_or p.faces (k + 1) []

-- the planes of triangles, in the order of their first ones, with the triangles of each; and which triangles face front
pub record ArePlanes (points : List (List ℤ)) (all : List Face) (p : Planes) : Type 0 where
  pub count : p.count ≡ length (planes points (bent points all))
  pub each : (k : ℕ) → k < p.count → map (face_at all) (faces_in p k) ≡ filter (in_plane points (face_at (planes points (bent points all)) k)) (bent points all)
  pub below : (k : ℕ) → k < p.count → All (λ t. t < length all) (faces_in p k)
  pub full : length p.fronts.items ≡ length all
  pub fronts : (t : ℕ) → t < length all → is_flat points (face_at all t).corners ≡ false → get_or p.fronts.items t false ≡ is_front points (face_at all t)
