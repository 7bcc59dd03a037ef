-- Whether two triangles cut one another, by signs of volumes and of areas.
use Rattle.std.specs.Prelude.{ℤ, pos, Bool, not, ◌&&◌, ◌||◌, int_lt, if◌then◌else◌}
use Rattle.std.specs.Ordering.{int_eq}
use Rattle.plane_laws.specs.Decisions.{Vector, face_normal, same_sign}
use Rattle.solid_terms.specs.Solids.{volume}
use Rattle.inspection_terms.specs.Inspected.{has_corner}
use Rattle.inspection_terms.specs.Triangles.{Corners, is_flat}

-- the number is 0
abbrev pub is_zero : ℤ → Bool
is_zero z = int_eq z (pos 0)

-- one is above 0 and the other below it
abbrev pub are_opposite : ℤ → ℤ → Bool
are_opposite a b = (int_lt a (pos 0) && int_lt (pos 0) b) || (int_lt (pos 0) a && int_lt b (pos 0))

-- no two of three are opposite
abbrev pub agree : ℤ → ℤ → ℤ → Bool
agree a b c = not (are_opposite a b) && not (are_opposite b c) && not (are_opposite c a)

-- the axes moved on: y, z and x in place of x, y and z
abbrev pub moved_on : Vector → Vector
moved_on v = record { x = v.y; y = v.z; z = v.x }

-- a place with its axes moved on so that the normal n is not 0 on the last one, if it is not 0
abbrev pub seen_along : Vector → Vector → Vector
seen_along n v = if is_zero n.z then (if is_zero n.x then moved_on (moved_on v) else moved_on v) else v

-- the doubled area of three places seen along the last axis, above 0 where they turn left
abbrev pub turn : Vector → Vector → Vector → ℤ
turn s t v = (face_normal s t v).z

-- a place of its plane lies within the triangle; f moves the axes
abbrev pub lies_within : (Vector → Vector) → Vector → Corners → Bool
lies_within f p o = agree (turn (f o.1) (f o.2) (f p)) (turn (f o.2) (f o.0) (f p)) (turn (f o.0) (f o.1) (f p))

-- and at no corner of it
abbrev pub lies_inside : (Vector → Vector) → Vector → Corners → Bool
lies_inside f p o = not (has_corner o p) && lies_within f p o

-- p lies in the triangle, and at no corner of it
abbrev pub is_corner_in : (Vector → Vector) → Vector → Corners → Bool
is_corner_in f p o = is_zero (volume p o.0 o.1 o.2) && lies_inside f p o

-- the ends of the edge lie on two sides of the triangle, and the edge goes through it
abbrev pub goes_through : Vector → Vector → Corners → Bool
goes_through p q o = are_opposite (volume p o.0 o.1 o.2) (volume q o.0 o.1 o.2) && agree (volume p q o.2 o.1) (volume p q o.0 o.2) (volume p q o.1 o.0)

-- the ends of the edge lie on two sides of the line of u and v, and not all of these lie on one side of the edge
abbrev pub crosses : Vector → Vector → Vector → Vector → Bool
crosses p q u v = are_opposite (turn u v p) (turn u v q) && not (same_sign (turn p q u) (turn p q v))

-- it crosses an edge of a triangle
abbrev pub crosses_any : Vector → Vector → Vector → Vector → Vector → Bool
crosses_any p q u v t = crosses p q u v || crosses p q v t || crosses p q t u

-- its end lies in the plane of the triangle, and seen along an axis it crosses an edge of that
abbrev pub ends_across : (Vector → Vector) → Vector → Vector → Corners → Bool
ends_across f p q o = is_zero (volume q o.0 o.1 o.2) && crosses_any (f p) (f q) (f o.0) (f o.1) (f o.2)

-- the edge lies in the plane of the triangle and crosses an edge of it
abbrev pub goes_across : (Vector → Vector) → Vector → Vector → Corners → Bool
goes_across f p q o = is_zero (volume p o.0 o.1 o.2) && ends_across f p q o

-- the edge meets the triangle between its ends
abbrev pub is_edge_in : (Vector → Vector) → Vector → Vector → Corners → Bool
is_edge_in f p q o = goes_through p q o || goes_across f p q o

-- a corner of the first lies in the second
abbrev pub corners_in : (Vector → Vector) → Corners → Corners → Bool
corners_in f t o = is_corner_in f t.0 o || is_corner_in f t.1 o || is_corner_in f t.2 o

-- an edge of the first meets the second between its ends
abbrev pub edges_in : (Vector → Vector) → Corners → Corners → Bool
edges_in f t o = is_edge_in f t.0 t.1 o || is_edge_in f t.1 t.2 o || is_edge_in f t.2 t.0 o

-- one or the other
abbrev pub reaches_by : (Vector → Vector) → Corners → Corners → Bool
reaches_by f t o = corners_in f t o || edges_in f t o

-- the first reaches into the second, seen along an axis on which the second is not flat
abbrev pub reaches : Corners → Corners → Bool
reaches t o = reaches_by (seen_along (face_normal o.0 o.1 o.2)) t o

-- the corners of the first are corners of the second
abbrev pub are_on_same_places : Corners → Corners → Bool
are_on_same_places t o = has_corner o t.0 && has_corner o t.1 && has_corner o t.2

-- two triangles that are not flat cut one another
abbrev pub cut : Corners → Corners → Bool
cut t o = are_on_same_places t o || reaches t o || reaches o t

-- two triangles do
abbrev pub are_cutting : Corners → Corners → Bool
are_cutting t o = not (is_flat t) && not (is_flat o) && cut t o

-- some corner of the first lies over the second, and each that does not is a corner of it
abbrev pub lies_over : Corners → Corners → Bool
lies_over t o =
    (int_lt (pos 0) (volume t.0 o.0 o.1 o.2) || int_lt (pos 0) (volume t.1 o.0 o.1 o.2) || int_lt (pos 0) (volume t.2 o.0 o.1 o.2))
    && (int_lt (pos 0) (volume t.0 o.0 o.1 o.2) || has_corner o t.0) && (int_lt (pos 0) (volume t.1 o.0 o.1 o.2) || has_corner o t.1)
    && (int_lt (pos 0) (volume t.2 o.0 o.1 o.2) || has_corner o t.2)

-- some corner lies under it, and each that does not is a corner of it
abbrev pub lies_under : Corners → Corners → Bool
lies_under t o =
    (int_lt (volume t.0 o.0 o.1 o.2) (pos 0) || int_lt (volume t.1 o.0 o.1 o.2) (pos 0) || int_lt (volume t.2 o.0 o.1 o.2) (pos 0))
    && (int_lt (volume t.0 o.0 o.1 o.2) (pos 0) || has_corner o t.0) && (int_lt (volume t.1 o.0 o.1 o.2) (pos 0) || has_corner o t.1)
    && (int_lt (volume t.2 o.0 o.1 o.2) (pos 0) || has_corner o t.2)

-- one or the other
abbrev pub lies_beside : Corners → Corners → Bool
lies_beside t o = lies_over t o || lies_under t o
