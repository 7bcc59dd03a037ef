-- The points of the grid at which corners lie.
use Rattle.std.specs.Prelude.{ℤ, List, [], ◌∷◌, map}
use Rattle.std.specs.Int.{int_div_euclid}
use Rattle.mb_base.specs.declared.TheConstants.{UNIT}
use Rattle.mb_base.specs.declared.point.Corner.{Corner}
use Rattle.side_terms.specs.Corners.{axis}

-- the point of a corner: each coordinate in grid steps
abbrev pub point_of : Corner → List ℤ
point_of c = int_div_euclid (axis 0 c) UNIT ∷ int_div_euclid (axis 1 c) UNIT ∷ int_div_euclid (axis 2 c) UNIT ∷ []

-- the points of corners, in order
abbrev pub points_of : List Corner → List (List ℤ)
points_of cs = map point_of cs
