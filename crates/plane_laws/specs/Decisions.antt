-- What exact signs decide: whether a height is above, and which of two simplices is above the other, by the cross product of their edges.
use Rattle.std.specs.Prelude.{ℤ, pos, ◌+ℤ◌, ◌-ℤ◌, ◌*ℤ◌, Bool, ◌&&◌, ◌||◌, int_lt, int_le, if◌then◌else◌}
use Rattle.std.specs.Ordering.{int_eq}

-- a place in space, and a way there
pub record Vector : Type 0 where
  pub x : ℤ
  pub y : ℤ
  pub z : ℤ

-- the way from one to another
abbrev pub way : Vector → Vector → Vector
way p q = record { x = q.x -ℤ p.x; y = q.y -ℤ p.y; z = q.z -ℤ p.z }

-- the cross product
abbrev pub cross_product : Vector → Vector → Vector
cross_product e f = record { x = e.y *ℤ f.z -ℤ e.z *ℤ f.y; y = e.z *ℤ f.x -ℤ e.x *ℤ f.z; z = e.x *ℤ f.y -ℤ e.y *ℤ f.x }

-- the scalar product
abbrev pub scalar : Vector → Vector → ℤ
scalar n w = n.x *ℤ w.x +ℤ n.y *ℤ w.y +ℤ n.z *ℤ w.z

-- whether a height is above: more than 0, or 0 where the edge from left to right doesn't rise
abbrev pub is_over : ℤ → ℤ → ℤ → Bool
is_over v left right = int_lt (pos 0) v || (int_eq v (pos 0) && int_le right left)

-- both above 0, or both below it
abbrev pub same_sign : ℤ → ℤ → Bool
same_sign a b = (int_lt (pos 0) a && int_lt (pos 0) b) || (int_lt a (pos 0) && int_lt b (pos 0))

-- the first of three numbers that is not 0, if one is not
abbrev pub leading : Vector → ℤ
leading n = if int_eq n.x (pos 0) then (if int_eq n.y (pos 0) then n.z else n.y) else n.x

-- above: the height h over the plane, or, where that is 0, the first number of the normal n, has the sign of the normal in z
abbrev pub is_above : Vector → ℤ → Bool
is_above n h = if int_eq h (pos 0) then same_sign (leading n) n.z else same_sign h n.z

-- an edge of P and one of Q
abbrev pub edges_normal : Vector → Vector → Vector → Vector → Vector
edges_normal a b c d = cross_product (way a b) (way c d)

-- the edge of P is above that of Q
abbrev pub edges_above : Vector → Vector → Vector → Vector → Bool
edges_above a b c d = is_above (edges_normal a b c d) (scalar (edges_normal a b c d) (way c a))

-- a vertex of P and a face of Q
abbrev pub face_normal : Vector → Vector → Vector → Vector
face_normal u v w = cross_product (way u v) (way u w)

-- the vertex is above the face
abbrev pub vertex_above : Vector → Vector → Vector → Vector → Bool
vertex_above p u v w = is_above (face_normal u v w) (scalar (face_normal u v w) (way u p))

-- a face of P and a vertex of Q
abbrev pub face_above : Vector → Vector → Vector → Vector → Bool
face_above u v w q = is_above (face_normal u v w) (scalar (face_normal u v w) (way q u))
