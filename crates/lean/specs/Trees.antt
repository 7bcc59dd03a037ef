-- A side with the list of boxes that its tree is over.
use Rattle.std.specs.Prelude.{◌≡◌, List}
use Rattle.mb_base.specs.declared.point.Box3.{Box3}
use Rattle.side_terms.specs.Sides.{Side, IsSide, face_boxes}

-- a side, and the boxes of its triangles
pub record IsSideWith (boxes : List Box3) (side : Side) : Type 0 where
  pub known : IsSide side
  pub over : boxes ≡ face_boxes side
