-- Points of the grid as lists of three coordinates.
use Rattle.std.specs.Prelude.{◌≡◌, ℕ, ◌≤◌, ◌^◌, ℤ, pos, ◌-ℤ◌, ◌*ℤ◌, List, [], ◌∷◌, get_or, length, unsigned_abs}

-- a coordinate from -2^30 to 2^30
abbrev pub IsOnGrid : ℤ → Type 0
IsOnGrid z = unsigned_abs z ≤ 2 ^ 30

-- x, y and z
abbrev pub coordinate_of : List ℤ → ℕ → ℤ
coordinate_of p i = get_or p i (pos 0)

-- three coordinates on the grid
pub record IsPoint (p : List ℤ) : Type 0 where
  pub three : length p ≡ 3
  pub x : IsOnGrid (coordinate_of p 0)
  pub y : IsOnGrid (coordinate_of p 1)
  pub z : IsOnGrid (coordinate_of p 2)

-- one coordinate of the cross product of b - a and c - a; i and j are the two axes after its own
abbrev pub cross_on : ℕ → ℕ → List ℤ → List ℤ → List ℤ → ℤ
cross_on i j a b c =
    (coordinate_of b i -ℤ coordinate_of a i) *ℤ (coordinate_of c j -ℤ coordinate_of a j) -ℤ (coordinate_of b j -ℤ coordinate_of a j) *ℤ (coordinate_of c i -ℤ coordinate_of a i)

-- its three coordinates
abbrev pub cross_x : List ℤ → List ℤ → List ℤ → ℤ
cross_x a b c = cross_on 1 2 a b c

abbrev pub cross_y : List ℤ → List ℤ → List ℤ → ℤ
cross_y a b c = cross_on 2 0 a b c

abbrev pub cross_z : List ℤ → List ℤ → List ℤ → ℤ
cross_z a b c = cross_on 0 1 a b c

abbrev pub cross_product : List ℤ → List ℤ → List ℤ → List ℤ
cross_product a b c = cross_x a b c ∷ cross_y a b c ∷ cross_z a b c ∷ []
