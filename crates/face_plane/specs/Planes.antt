-- Faces seen in a plane: the axis that is dropped, points and vertices in the plane, turns, areas and distances.
use Rattle.std.specs.Prelude.{ℕ, ◌==◌, ◌&&◌, ℤ, pos, ◌+ℤ◌, ◌-ℤ◌, ◌*ℤ◌, List, [], Bool, cond, if◌then◌else◌, not, nat_lt, get_or, unsigned_abs, int_lt}
use Rattle.chain_terms.specs.Sums.{total}
use Rattle.chain_terms.specs.Paths.{round_edges}
use Rattle.mesh_terms.specs.Points.{coordinate_of, cross_x, cross_y, cross_z}

-- the axis of the largest of three sizes, of equal ones the last of x, y and z
abbrev pub greatest_axis : ℕ → ℕ → ℕ → ℕ
greatest_axis x y z = if not (nat_lt z x) && not (nat_lt z y) then 2 else if not (nat_lt y x) then 1 else 0

-- the axis that is dropped: that along which the cross product of a face's three points is longest
abbrev pub plane_drop : List ℤ → List ℤ → List ℤ → ℕ
plane_drop a b c = greatest_axis (unsigned_abs (cross_x a b c)) (unsigned_abs (cross_y a b c)) (unsigned_abs (cross_z a b c))

-- (u, v) of a point is (x, y) where z is dropped, (z, x) where y is, (y, z) where x is
abbrev pub flat_point : ℕ → List ℤ → ℤ × ℤ
flat_point drop_axis p =
    if drop_axis == 2 then (coordinate_of p 0, coordinate_of p 1)
    else if drop_axis == 1 then (coordinate_of p 2, coordinate_of p 0)
    else (coordinate_of p 1, coordinate_of p 2)

-- u and v exchanged
abbrev pub swapped : ℤ × ℤ → ℤ × ℤ
swapped p = (p.1, p.0)

-- a point in the plane, exchanged where the plane is turned
abbrev pub flat_at : ℕ → Bool → List ℤ → ℤ × ℤ
flat_at drop_axis turned p = cond turned (swapped (flat_point drop_axis p)) (flat_point drop_axis p)

-- above 0 where a, b, c turn left, below 0 where they turn right, 0 where they lie on a line
abbrev pub turn : ℤ × ℤ → ℤ × ℤ → ℤ × ℤ → ℤ
turn a b c = (b.0 -ℤ a.0) *ℤ (c.1 -ℤ a.1) -ℤ (b.1 -ℤ a.1) *ℤ (c.0 -ℤ a.0)

-- the doubled area of the origin, a and b
abbrev pub wedge : ℤ × ℤ → ℤ × ℤ → ℤ
wedge a b = a.0 *ℤ b.1 -ℤ b.0 *ℤ a.1

-- the squared distance of two points
abbrev pub squared_distance : ℤ × ℤ → ℤ × ℤ → ℤ
squared_distance a b = (b.0 -ℤ a.0) *ℤ (b.0 -ℤ a.0) +ℤ (b.1 -ℤ a.1) *ℤ (b.1 -ℤ a.1)

-- the place of each vertex in the plane
abbrev pub Plane : Type 0
Plane = ℕ → ℤ × ℤ

-- the turn of three vertices
abbrev pub orient : Plane → ℕ → ℕ → ℕ → ℤ
orient at a b c = turn (at a) (at b) (at c)

-- u v' - u' v along an edge
abbrev pub across : Plane → (ℕ × ℕ) → ℤ
across at e = wedge (at e.0) (at e.1)

-- a loop's doubled area
abbrev pub area : Plane → List ℕ → ℤ
area at loop = total (across at) (round_edges loop)

-- every place exchanged
abbrev pub exchanged : Plane → Plane
exchanged at v = swapped (at v)

-- where the areas of all loops add up to less than 0
abbrev pub is_turned : Plane → List (List ℕ) → Bool
is_turned at loops = int_lt (total (area at) loops) (pos 0)

-- u and v are exchanged where that is so
abbrev pub settled_plane : Plane → List (List ℕ) → Plane
settled_plane at loops = cond (is_turned at loops) (exchanged at) at

-- the point of a vertex
abbrev pub point_at : List (List ℤ) → ℕ → List ℤ
point_at points v = get_or points v []

-- the vertices in the plane that drops an axis
abbrev pub plane_of : ℕ → (ℕ → List ℤ) → Plane
plane_of drop_axis place v = flat_point drop_axis (place v)

-- the vertices of a list of points in that plane, exchanged where it is turned
abbrev pub face_plane : ℕ → Bool → List (List ℤ) → Plane
face_plane drop_axis turned points v = flat_at drop_axis turned (point_at points v)
