-- Rings and holes among the loops of a face, and the order in which holes are taken.
use Rattle.std.specs.Prelude.{ℕ, pos, List, [], ◌∷◌, ◌++◌, Bool, cond, ◌&&◌, ◌||◌, ◌==◌, nat_lt, length, take, drop, map, filter, int_lt, int_le}
use Rattle.std.specs.Ordering.{int_eq}
use Rattle.std.specs.List.{position_or_len}
use Rattle.face_plane.specs.Planes.{Plane, area}
use Rattle.face_plane.specs.Rings.{vertex_at}

-- greater u, then greater v, then the lesser number
abbrev pub comes_first : Plane → ℕ → ℕ → Bool
comes_first at v w =
    int_lt (at w).0 (at v).0 || (int_eq (at w).0 (at v).0 && (int_lt (at w).1 (at v).1 || (int_eq (at w).1 (at v).1 && nat_lt v w)))

-- the first of two vertices in that order
abbrev pub first_of_two : Plane → ℕ → ℕ → ℕ
first_of_two at s v = cond (comes_first at v s) v s

-- the first of s and the vertices of a list
abbrev pub first_of_all : Plane → ℕ → List ℕ → ℕ
first_of_all at s [] = s
first_of_all at s (v ∷ vs) = first_of_all at (first_of_two at s v) vs

-- a hole's start: its first vertex in that order
abbrev pub hole_start : Plane → List ℕ → ℕ
hole_start at [] = 0
hole_start at (v ∷ vs) = first_of_all at v vs

-- the list from its i-th place, once round
abbrev pub turned_to : ℕ → List ℕ → List ℕ
turned_to i loop = drop i loop ++ take i loop

-- the hole in its order, from its start
abbrev pub from_start : Plane → List ℕ → List ℕ
from_start at hole = turned_to (position_or_len (λ v. v == hole_start at hole) hole) hole

-- a loop is a ring where its area is not negative, else a hole
abbrev pub is_ring : Plane → List ℕ → Bool
is_ring at loop = int_le (pos 0) (area at loop)

abbrev pub is_hole : Plane → List ℕ → Bool
is_hole at loop = int_lt (area at loop) (pos 0)

-- how many loops are rings, and how many are holes
abbrev pub ring_count : Plane → List (List ℕ) → ℕ
ring_count at loops = length (filter (is_ring at) loops)

abbrev pub hole_count : Plane → List (List ℕ) → ℕ
hole_count at loops = length (filter (is_hole at) loops)

-- the rings in the order of the loops
abbrev pub ring_list : Plane → List (List ℕ) → List (List ℕ)
ring_list at loops = filter (is_ring at) loops

-- a hole among holes that begin with their starts, in front of the first one whose start comes later
abbrev pub put_hole : Plane → List ℕ → List (List ℕ) → List (List ℕ)
put_hole at hole [] = hole ∷ []
put_hole at hole (k ∷ ks) = cond (comes_first at (vertex_at hole 0) (vertex_at k 0)) (hole ∷ k ∷ ks) (k ∷ put_hole at hole ks)

-- the holes of a list put in order among those that are in order
abbrev pub put_all : Plane → List (List ℕ) → List (List ℕ) → List (List ℕ)
put_all at sorted [] = sorted
put_all at sorted (k ∷ ks) = put_all at (put_hole at k sorted) ks

-- the holes, each from its start, in the order in which they are taken
abbrev pub hole_list : Plane → List (List ℕ) → List (List ℕ)
hole_list at loops = put_all at [] (map (from_start at) (filter (is_hole at) loops))
