-- Spots: the values of P and Q where the shadows of a pair of simplices meet.
use Rattle.std.specs.Prelude.{ℕ, ℤ, pos, ◌-ℤ◌, Bool, false, ◌&&◌, ◌||◌, if◌then◌else◌, List, [], ◌∷◌, slice_index_or, int_lt, unsigned_abs}
use Rattle.std.specs.Ordering.{int_eq}
use Rattle.mb_base.specs.declared.point.Corner.{Corner}
use Rattle.side_terms.specs.Corners.{axis, up_on}
use Rattle.shadow_kernels.specs.declared.Spot.{Spot}

-- a value between two values, by two weights
abbrev pub Between : Type 0
Between = ℤ → ℤ → ℤ → ℤ → ℤ

-- P's value is beyond Q's: greater, or equal and up
abbrev pub beats : ℤ → ℤ → Bool → Bool
beats p q up = int_lt q p || (int_eq p q && up)

-- a vertex of P is beyond a vertex of Q in x
abbrev pub beyond : Corner → Corner → Bool
beyond p q = beats (axis 0 p) (axis 0 q) (up_on 0 p)

-- a mark between two: the first at weight a = 0, the second at weight b = 0, else up where both are
abbrev pub mark : ℤ → ℤ → Bool → Bool → Bool
mark a b first second = if int_eq a (pos 0) then first else (if int_eq b (pos 0) then second else (first && second))

-- the mark on axis i among a spot's or a corner's three
abbrev pub flag : List Bool → ℕ → Bool
flag ups i = slice_index_or ups i false

-- the three marks between two times three
abbrev pub marks : ℤ → ℤ → List Bool → List Bool → List Bool
marks a b first second = mark a b (flag first 0) (flag second 0) ∷ mark a b (flag first 1) (flag second 1) ∷ mark a b (flag first 2) (flag second 2) ∷ []

-- two vertices
abbrev pub spot00 : Corner → Corner → Spot
spot00 p q = record { x = axis 0 p; py = axis 1 p; qy = axis 1 q; pz = axis 2 p; qz = axis 2 q; up = p.up }

-- the value on axis i of an edge whose left end is l, at x: weighted by the distances in x
abbrev pub edge_value : Between → ℕ → Corner → Corner → ℤ → ℤ
edge_value between i l r x = between (axis i l) (axis i r) (x -ℤ axis 0 l) (axis 0 r -ℤ x)

-- a vertex and an edge whose left end is l
unfoldable pub spot01 : Between → Corner → Corner → Corner → Spot
spot01 between p l r =
    let on : ℕ → ℤ = λ i. edge_value between i l r (axis 0 p) in record { x = axis 0 p; py = axis 1 p; qy = on 1; pz = axis 2 p; qz = on 2; up = p.up }

-- an edge whose left end is l, and a vertex: the marks follow the edge's values
unfoldable pub spot10 : Between → Corner → Corner → Corner → Spot
spot10 between l r q =
    let on : ℕ → ℤ = λ i. edge_value between i l r (axis 0 q) in
    record { x = axis 0 q; py = on 1; qy = axis 1 q; pz = on 2; qz = axis 2 q; up = marks (axis 0 q -ℤ axis 0 l) (axis 0 r -ℤ axis 0 q) l.up r.up }

-- the difference without its sign
abbrev pub gap : ℤ → ℤ → ℤ
gap p q = pos (unsigned_abs (p -ℤ q))

-- between a spot that is not above and one that is, weighted by their gaps in y
unfoldable pub spot_between : Between → Spot → Spot → Spot
spot_between between d u =
    let a = gap d.py d.qy in
    let b = gap u.py u.qy in
    record { x = between d.x u.x a b; py = between d.py u.py a b; qy = between d.qy u.qy a b; pz = between d.pz u.pz a b; qz = between d.qz u.qz a b; up = marks a b d.up u.up }

-- the spot of nothing
abbrev pub no_spot : Spot
no_spot = record { x = pos 0; py = pos 0; qy = pos 0; pz = pos 0; qz = pos 0; up = false ∷ false ∷ false ∷ [] }

-- P is beyond Q in y at the spot
abbrev pub above_y : Spot → Bool
above_y s = beats s.py s.qy (flag s.up 1)

-- P is beyond Q in z at the spot
abbrev pub above_z : Spot → Bool
above_z s = beats s.pz s.qz (flag s.up 2)
