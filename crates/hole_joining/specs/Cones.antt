-- Where a bridge may run: in the cones at its ends, and past the edges of rings and holes.
use Rattle.std.specs.Prelude.{ℕ, ℤ, pos, List, Bool, cond, not, ◌&&◌, ◌||◌, ◌==◌, int_lt, int_le}
use Rattle.std.specs.Int.{int_min, int_max}
use Rattle.std.specs.List.{list_any}
use Rattle.face_plane.specs.Planes.{Plane, turn, orient}
use Rattle.face_plane.specs.Rings.{vertex_at, vertex_before, vertex_after}

-- whether the segment from s towards t lies in the cone at s, between p before and n after it
abbrev pub in_cone : Plane → ℕ → ℕ → ℕ → ℕ → Bool
in_cone at p s n t =
    cond (int_le (pos 0) (orient at p s n))
    (int_lt (pos 0) (orient at s t p) && int_lt (pos 0) (orient at t s n))
    (not (int_le (pos 0) (orient at s t n) && int_le (pos 0) (orient at t s p)))

-- closed intervals, each between two numbers, with a number in common
abbrev pub overlap : ℤ → ℤ → ℤ → ℤ → Bool
overlap a b c d = int_le (int_min a b) (int_max c d) && int_le (int_min c d) (int_max a b)

-- two turns that are not both to the left and not both to the right
abbrev pub on_both_sides : ℤ → ℤ → Bool
on_both_sides s t = not (int_lt (pos 0) s && int_lt (pos 0) t) && not (int_lt s (pos 0) && int_lt t (pos 0))

-- the boxes of two segments have a point in common
abbrev pub boxes_meet : ℤ × ℤ → ℤ × ℤ → ℤ × ℤ → ℤ × ℤ → Bool
boxes_meet a b c d = overlap a.0 b.0 c.0 d.0 && overlap a.1 b.1 c.1 d.1

-- neither of two segments lies strictly on one side of the other's line
abbrev pub lines_meet : ℤ × ℤ → ℤ × ℤ → ℤ × ℤ → ℤ × ℤ → Bool
lines_meet a b c d = on_both_sides (turn a b c) (turn a b d) && on_both_sides (turn c d a) (turn c d b)

-- the closed segments from a to b and from c to d have a point in common
abbrev pub segments_meet : ℤ × ℤ → ℤ × ℤ → ℤ × ℤ → ℤ × ℤ → Bool
segments_meet a b c d = boxes_meet a b c d && lines_meet a b c d

-- the same of vertices
abbrev pub share_point : Plane → ℕ → ℕ → ℕ → ℕ → Bool
share_point at a b c d = segments_meet (at a) (at b) (at c) (at d)

-- the vertex is an end of the edge
abbrev pub has_end : (ℕ × ℕ) → ℕ → Bool
has_end e v = (e.0 == v) || (e.1 == v)

-- an edge that bars the segment from h to r: they meet, and neither h nor r is an end of the edge
abbrev pub bars : Plane → ℕ → ℕ → (ℕ × ℕ) → Bool
bars at h r e = not (has_end e h) && not (has_end e r) && share_point at h r e.0 e.1

-- whether the segment from the hole's start to place j of the ring lies in both cones, and no asked edge bars it
abbrev pub is_clear : Plane → List (ℕ × ℕ) → List ℕ → List ℕ → ℕ → Bool
is_clear at asked hole ring j =
    let h = vertex_at hole 0 in
    let r = vertex_at ring j in
    in_cone at (vertex_before hole 0) h (vertex_after hole 0) r && in_cone at (vertex_before ring j) r (vertex_after ring j) h
    && not (list_any (bars at h r) asked)
