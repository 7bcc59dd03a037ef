-- Boxes round corners.
use Rattle.mb_base.specs.declared.point.Box3.{Box3}
use Rattle.mb_base.specs.declared.point.Corner.{Corner}
use Rattle.mb_base.specs.Boxes.{axis}
use Rattle.box_tree.specs.Touching.{IsIn}

-- the corner lies in the box
abbrev pub IsRound : Box3 → Corner → Type 0
IsRound b c = IsIn b (axis 0 c) (axis 1 c) (axis 2 c)
