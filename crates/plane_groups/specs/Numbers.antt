-- Triangles with the numbers of their planes: 0 where they are flat, and else 1 and the place of the plane's key among the keys so far.
use Rattle.std.specs.Prelude.{ℕ, ◌+◌, ℤ, List, Bool, false, not, cond, filter, map}
use Rattle.std.specs.List.{position_or_len}
use Rattle.face_plane.specs.Planes.{point_at}
use Rattle.mesh_terms.specs.Meshes.{Triple}
use Rattle.mesh_terms.specs.Points.{cross_product}
use Rattle.sheet_terms.specs.Faces.{is_flat}
use Rattle.sheet_terms.specs.Places.{firsts}
use Rattle.sheet_terms.specs.Twins.{is_up}
use Rattle.indexmap.specs.IndexSet.{insert_key}
use Rattle.plane_groups.specs.Keys.{key_at, same_key}
use Rattle.plane_groups.specs.declared.plane_key.PlaneKey.{PlaneKey}

-- the keys of the planes of triangles, in the order of their first ones
abbrev pub keys_of : List (List ℤ) → List Triple → List PlaneKey
keys_of points ts = firsts same_key (map (key_at points) (filter (λ t. not (is_flat points t)) ts))

-- the keys after a triangle
abbrev pub keys_with : List (List ℤ) → List PlaneKey → Triple → List PlaneKey
keys_with points ks t = cond (is_flat points t) ks (insert_key same_key ks (key_at points t))

-- a triangle's number among keys
abbrev pub number_among : List (List ℤ) → List PlaneKey → Triple → ℕ
number_among points ks t = cond (is_flat points t) 0 (position_or_len (same_key (key_at points t)) ks + 1)

-- a triangle that isn't flat faces front
abbrev pub faces_front : List (List ℤ) → Triple → Bool
faces_front points t = cond (is_flat points t) false (is_up (cross_product (point_at points t.0) (point_at points t.1) (point_at points t.2)))
