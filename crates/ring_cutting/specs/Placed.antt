-- Places of a ring beside the points of their vertices.
use Rattle.std.specs.Prelude.{◌≡◌, ℕ, ◌==◌, List, Bool, not, ◌&&◌, map}
use Rattle.std.specs.List.{All}
use Rattle.face_plane.specs.Planes.{Plane}
use Rattle.ring_cutting.specs.Cuts.{covers}
use Rattle.ring_cutting.specs.declared.place.Place.{Place}

-- the vertices of the places
abbrev pub vertices_of : List Place → List ℕ
vertices_of ps = map (λ p. p.vertex) ps

-- each place has the point of its vertex in the plane
abbrev pub IsPlaced : Plane → List Place → Type 0
IsPlaced at ps = All (λ p. p.at ≡ at p.vertex) ps

-- a place whose vertex is none of the three, with its point in their triangle
abbrev pub place_blocks : Place → Place → Place → Place → Bool
place_blocks p x n w =
    not (w.vertex == p.vertex) && not (w.vertex == x.vertex) && not (w.vertex == n.vertex) && covers p.at x.at n.at w.at

-- a vertex that is neither of two
abbrev pub is_third : ℕ → ℕ → ℕ → Bool
is_third p n v = not (v == p) && not (v == n)
