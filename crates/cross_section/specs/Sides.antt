-- Sides of outlines: what each keeps, and the boxes of its edges.
use Rattle.std.specs.Prelude.{◌≡◌, ◌≤◌, pos, List, length, map}
use Rattle.std.specs.List.{All}
use Rattle.mb_base.specs.declared.point.Box3.{Box3}
use Rattle.mb_base.specs.declared.point.Corner.{Corner}
use Rattle.mb_base.specs.Boxes.{box_of}
use Rattle.side_terms.specs.Corners.{AllFine, axis}
use Rattle.outline_pair_terms.specs.Numbers.{FlatSide, ends_of}
use Rattle.outline_terms.specs.Outlines.{IsBetween, most_vertices}

-- z is 0
abbrev pub IsLevel : Corner → Type 0
IsLevel c = axis 2 c ≡ pos 0

-- fine corners at one height, and edges between them, no more than an outline has
pub record IsFlatSide (side : FlatSide) : Type 0 where
  pub fine : AllFine side.corners
  pub level : All IsLevel side.corners
  pub below : All (IsBetween (length side.corners)) side.edges
  pub few : length side.edges ≤ most_vertices

-- the box of each edge, in order
abbrev pub edge_boxes : FlatSide → List Box3
edge_boxes side = map (λ e. box_of (ends_of side e)) side.edges

-- such a side, and its boxes
pub record IsFlatSideWith (boxes : List Box3) (s : FlatSide) : Type 0 where
  pub side : IsFlatSide s
  pub over : boxes ≡ edge_boxes s
