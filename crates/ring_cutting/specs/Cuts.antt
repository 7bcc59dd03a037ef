-- Cutting a ring into triangles, place by place.
use Rattle.std.specs.Prelude.{ℕ, zero, suc, ◌+◌, ◌-◌, ℤ, pos, List, [], ◌∷◌, Bool, cond, not, ◌&&◌, ◌==◌, nat_lt, length, int_lt, int_le}
use Rattle.std.specs.List.{list_any, position_or_len}
use Rattle.chain_terms.specs.Sums.{upto}
use Rattle.mesh_terms.specs.Meshes.{Triple}
use Rattle.face_plane.specs.Planes.{Plane, turn, orient}
use Rattle.face_plane.specs.Rings.{different, without_place, vertex_at, vertex_before, vertex_after}

-- the neighbours differ, and the ring without the place has at least three different vertices
abbrev pub is_allowed : List ℕ → ℕ → Bool
is_allowed r i = not (vertex_before r i == vertex_after r i) && nat_lt 2 (different (without_place i r))

-- a point in a triangle a, b, c that turns left, its rim included
abbrev pub covers : ℤ × ℤ → ℤ × ℤ → ℤ × ℤ → ℤ × ℤ → Bool
covers a b c x = int_le (pos 0) (turn a b x) && int_le (pos 0) (turn b c x) && int_le (pos 0) (turn c a x)

-- the same of vertices
abbrev pub in_triangle : Plane → ℕ → ℕ → ℕ → ℕ → Bool
in_triangle at a b c v = covers (at a) (at b) (at c) (at v)

-- a vertex that is none of the three, with its point in their triangle
abbrev pub blocks : Plane → ℕ → ℕ → ℕ → ℕ → Bool
blocks at p x n v = not (v == p) && not (v == x) && not (v == n) && in_triangle at p x n v

-- an allowed place that turns left, with no other vertex in its triangle
abbrev pub is_ear : Plane → List ℕ → ℕ → Bool
is_ear at r i =
    let p = vertex_before r i in
    let x = vertex_at r i in
    let n = vertex_after r i in
    is_allowed r i && int_lt (pos 0) (orient at p x n) && not (list_any (blocks at p x n) r)

-- the least place that is an ear; the number of places where there is none
abbrev pub first_ear : Plane → List ℕ → ℕ
first_ear at r = position_or_len (is_ear at r) (upto (length r))

-- the least place that is allowed
abbrev pub first_allowed : List ℕ → ℕ
first_allowed r = position_or_len (is_allowed r) (upto (length r))

-- triangles, and how many of them were forced
pub record Cut : Type 0 where
  pub triples : List Triple
  pub forced : ℕ

-- with another triangle in front
abbrev pub with_triple : Triple → ℕ → Cut → Cut
with_triple t n c = record { triples = t ∷ c.triples; forced = n + c.forced }

-- the triangle of a place and its neighbours
abbrev pub triple_at : List ℕ → ℕ → Triple
triple_at r i = (vertex_before r i, vertex_at r i, vertex_after r i)

-- its turn
abbrev pub turn_at : Plane → List ℕ → ℕ → ℤ
turn_at at r i = orient at (vertex_before r i) (vertex_at r i) (vertex_after r i)

-- with three places left: these in order, forced where they do not turn left
abbrev pub last_triple : Plane → List ℕ → Cut
last_triple at r =
    let a = vertex_at r 0 in
    let b = vertex_at r 1 in
    let c = vertex_at r 2 in
    record { triples = (a, b, c) ∷ []; forced = cond (int_lt (pos 0) (orient at a b c)) 0 1 }

-- the place that is cut: the least ear, and where there is none the least allowed place
abbrev pub cut_place : Plane → List ℕ → ℕ
cut_place at r = cond (nat_lt (first_ear at r) (length r)) (first_ear at r) (first_allowed r)

-- one where there is no ear
abbrev pub forced_here : Plane → List ℕ → ℕ
forced_here at r = cond (nat_lt (first_ear at r) (length r)) 0 1

-- the cutting of a ring of n + 3 places: the first cut, then that of the places that stay
abbrev pub cut_of : Plane → ℕ → List ℕ → Cut
cut_of at zero r = last_triple at r
cut_of at (suc n) r =
    let i = cut_place at r in with_triple (triple_at r i) (forced_here at r) (cut_of at n (without_place i r))

-- the cutting of a ring
abbrev pub cut_ring : Plane → List ℕ → Cut
cut_ring at r = cut_of at (length r - 3) r
