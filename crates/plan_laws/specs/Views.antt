-- A plane as it is seen from its front, and from the side that a triangle faces.
use Rattle.std.specs.Prelude.{◌≡◌, ℤ, pos, List, Bool, not, if◌then◌else◌, int_lt}
use Rattle.face_plane.specs.Planes.{Plane, face_plane}
use Rattle.mesh_terms.specs.Points.{coordinate_of}
use Rattle.plane_groups.specs.declared.view.PlaneView.{PlaneView}
use Rattle.plane_groups.specs.Grouped.{is_front}
use Rattle.sheet_terms.specs.Faces.{Face, drop_of, normal}

-- whether the two other axes are exchanged as a triangle's plane is seen from the side that it faces
abbrev pub is_turned : List (List ℤ) → Face → Bool
is_turned points f = int_lt (coordinate_of (normal points f) (drop_of points f)) (pos 0)

-- whether they are as it is seen from the front, and from any side
abbrev pub front_turned : List (List ℤ) → Face → Bool
front_turned points f = if is_front points f then is_turned points f else not (is_turned points f)

abbrev pub side_turned : List (List ℤ) → Face → Bool → Bool
side_turned points f front = if front then front_turned points f else not (front_turned points f)

-- the places seen from the front of a triangle's plane
abbrev pub front_seen : List (List ℤ) → Face → Plane
front_seen points f = face_plane (drop_of points f) (front_turned points f) points

-- the plane of a triangle as it is seen from its front, or from its back
pub record IsSeenFrom (points : List (List ℤ)) (f : Face) (front : Bool) (v : PlaneView) : Type 0 where
  pub drop : v.plane.drop ≡ drop_of points f
  pub turned : v.turned ≡ side_turned points f front
