-- Boxes of corners, by their bounds, and points of the grid in them.
use Rattle.std.specs.Prelude.{ℕ, ℤ, ◌*ℤ◌, ◌≤ℤ◌, ◌<ℤ◌, ◌⊎◌, List}
use Rattle.std.specs.List.{All}
use Rattle.mesh_terms.specs.Points.{coordinate_of}
use Rattle.mb_base.specs.declared.TheConstants.{UNIT}
use Rattle.mb_base.specs.declared.point.Corner.{Corner}
use Rattle.side_terms.specs.Corners.{axis}

-- z lies in the box of the corners on one axis: every bound of theirs is a bound of z
pub record IsInBox (i : ℕ) (ps : List Corner) (z : ℤ) : Type 0 where
  pub low : (l : ℤ) → All (λ c. l ≤ℤ axis i c) ps → l ≤ℤ z
  pub high : (h : ℤ) → All (λ c. axis i c ≤ℤ h) ps → z ≤ℤ h

-- on one axis all of ps are strictly below all of qs
pub record IsBelow (i : ℕ) (ps qs : List Corner) : Type 0 where
  pub below : All (λ p. All (λ q. axis i p <ℤ axis i q) qs) ps

-- on one axis the boxes are strictly apart
abbrev pub AreApart : ℕ → List Corner → List Corner → Type 0
AreApart i ps qs = IsBelow i ps qs ⊎ IsBelow i qs ps

-- the fine coordinate of a point on axis i
abbrev pub fine_axis : ℕ → List ℤ → ℤ
fine_axis i point = UNIT *ℤ coordinate_of point i

-- the point lies in the box of the corners
pub record IsPointIn (cs : List Corner) (point : List ℤ) : Type 0 where
  pub x : IsInBox 0 cs (fine_axis 0 point)
  pub y : IsInBox 1 cs (fine_axis 1 point)
  pub z : IsInBox 2 cs (fine_axis 2 point)
