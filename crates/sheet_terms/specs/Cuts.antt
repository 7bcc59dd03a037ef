-- Cuts: the places inside an edge, and the rim of a triangle. All points of a list are places.
use Rattle.std.specs.Prelude.{ℕ, ℤ, pos, ◌+ℤ◌, ◌-ℤ◌, ◌*ℤ◌, List, [], ◌∷◌, ◌++◌, Bool, not, ◌&&◌, ◌==◌, int_lt, int_le, filter, length}
use Rattle.std.specs.Int.{int_min, int_max}
use Rattle.std.specs.Ordering.{int_eq}
use Rattle.chain_terms.specs.Sums.{upto}
use Rattle.face_plane.specs.Planes.{point_at}
use Rattle.mesh_terms.specs.Meshes.{Triple}
use Rattle.mesh_terms.specs.Points.{coordinate_of, cross_product}
use Rattle.sheet_terms.specs.Places.{ordered}

-- the scalar product
abbrev pub scalar : List ℤ → List ℤ → ℤ
scalar n p = (coordinate_of n 0 *ℤ coordinate_of p 0 +ℤ coordinate_of n 1 *ℤ coordinate_of p 1) +ℤ coordinate_of n 2 *ℤ coordinate_of p 2

-- from p to q
abbrev pub way : List ℤ → List ℤ → List ℤ
way p q = (coordinate_of q 0 -ℤ coordinate_of p 0) ∷ (coordinate_of q 1 -ℤ coordinate_of p 1) ∷ (coordinate_of q 2 -ℤ coordinate_of p 2) ∷ []

-- all three coordinates are 0
abbrev pub is_none : List ℤ → Bool
is_none n = int_eq (coordinate_of n 0) (pos 0) && int_eq (coordinate_of n 1) (pos 0) && int_eq (coordinate_of n 2) (pos 0)

-- three points lie on a line
abbrev pub are_in_line : List ℤ → List ℤ → List ℤ → Bool
are_in_line p q r = is_none (cross_product p q r)

-- coordinate i of x lies from that of p to that of q
abbrev pub is_from_to : List ℤ → List ℤ → List ℤ → ℕ → Bool
is_from_to p q x i =
    int_le (int_min (coordinate_of p i) (coordinate_of q i)) (coordinate_of x i) && int_le (coordinate_of x i) (int_max (coordinate_of p i) (coordinate_of q i))

-- x lies in the box of p and q
abbrev pub is_in_box : List ℤ → List ℤ → List ℤ → Bool
is_in_box p q x = is_from_to p q x 0 && is_from_to p q x 1 && is_from_to p q x 2

-- place v lies inside the edge from a to b: on its line, in its box, and at neither end
abbrev pub is_inside : List (List ℤ) → ℕ → ℕ → ℕ → Bool
is_inside points a b v =
    let p = point_at points a in
    let q = point_at points b in not (v == a) && not (v == b) && is_in_box p q (point_at points v) && are_in_line p q (point_at points v)

-- along the edge from a to b, v comes before w
abbrev pub is_nearer : List (List ℤ) → ℕ → ℕ → ℕ → ℕ → Bool
is_nearer points a b v w =
    let d = way (point_at points a) (point_at points b) in int_lt (scalar d (point_at points v)) (scalar d (point_at points w))

-- the places inside the edge from a to b, in order
abbrev pub cuts : List (List ℤ) → ℕ → ℕ → List ℕ
cuts points a b = ordered (is_nearer points a b) (filter (is_inside points a b) (upto (length points)))

-- the rim of a triangle: its corners with the places inside its edges
abbrev pub rim : List (List ℤ) → Triple → List ℕ
rim points t = (t.0 ∷ cuts points t.0 t.1) ++ (t.1 ∷ cuts points t.1 t.2) ++ (t.2 ∷ cuts points t.2 t.0)
