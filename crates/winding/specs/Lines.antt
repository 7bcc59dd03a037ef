-- The faces that can have a shadow with a corner.
use Rattle.std.specs.Prelude.{◌≡◌, false, ℤ, pos, List, [], ◌∷◌, length}
use Rattle.mb_base.specs.declared.point.Box3.{Box3}
use Rattle.mb_base.specs.declared.point.Corner.{Corner}
use Rattle.mb_base.specs.Boxes.{box_of}
use Rattle.side_terms.specs.Corners.{axis, AllFine}
use Rattle.box_tree.specs.Touching.{touches}

-- the part of the vertical line through a corner from one height to another
abbrev pub line_at : Corner → ℤ → ℤ → Box3
line_at c low high = record { low = axis 0 c ∷ axis 1 c ∷ low ∷ []; high = axis 0 c ∷ axis 1 c ∷ high ∷ [] }

-- a face whose box does not touch the area has no shadow
pub record HasShadowsIn (area : Box3) (shadow : List Corner → ℤ) : Type 0 where
  pub elsewhere : (face : List Corner) → length face ≡ 3 → AllFine face → touches (box_of face) area ≡ false → shadow face ≡ pos 0
