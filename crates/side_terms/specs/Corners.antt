-- Corners by their coordinates and marks.
use Rattle.std.specs.Prelude.{◌≡◌, ℕ, ℤ, ◌*ℤ◌, Bool, false, List, [], slice_index_or}
use Rattle.std.specs.List.{All}
use Rattle.mb_base.specs.declared.TheConstants.{UNIT}
use Rattle.mb_base.specs.declared.point.Corner.{Corner}
pub use Rattle.mb_base.specs.Boxes.{axis}
use Rattle.side_terms.specs.Fine.{IsFine}

-- a corner with nothing in it
abbrev pub blank_corner : Corner
blank_corner = record { at = []; up = [] }

-- the corner at a place of a list
abbrev pub corner_at : List Corner → ℕ → Corner
corner_at cs i = slice_index_or cs i blank_corner

-- whether the corner counts as moved up on axis i
abbrev pub up_on : ℕ → Corner → Bool
up_on i c = slice_index_or c.up i false

-- the three coordinates are fine
pub record IsFineCorner (c : Corner) : Type 0 where
  pub x : IsFine (axis 0 c)
  pub y : IsFine (axis 1 c)
  pub z : IsFine (axis 2 c)

-- all coordinates of all corners are fine
abbrev pub AllFine : List Corner → Type 0
AllFine cs = All IsFineCorner cs

-- a whole number of grid steps
pub record IsWhole (z : ℤ) : Type 0 where
  pub steps : ℤ
  pub value : z ≡ UNIT *ℤ steps

-- the three coordinates are whole numbers of grid steps
pub record IsWholeCorner (c : Corner) : Type 0 where
  pub x : IsWhole (axis 0 c)
  pub y : IsWhole (axis 1 c)
  pub z : IsWhole (axis 2 c)

-- all coordinates of all corners are
abbrev pub AllWhole : List Corner → Type 0
AllWhole cs = All IsWholeCorner cs
