-- Bounds of triangles in steps of the grid, and the boxes that they are in fine steps.
use Rattle.std.specs.Prelude.{◌≡◌, ℕ, ◌<◌, ◌^◌, ℤ, pos, ◌*ℤ◌, List, [], ◌∷◌, get_or, map}
use Rattle.std.specs.Int.{int_max, int_min}
use Rattle.mb_base.specs.declared.TheConstants.{UNIT}
use Rattle.mb_base.specs.declared.point.Box3.{Box3}
use Rattle.mesh_terms.specs.Meshes.{Triple}
use Rattle.mesh_terms.specs.Points.{coordinate_of}
use Rattle.box_tree.specs.declared.bounds.Range.{Range}
use Rattle.box_tree.specs.declared.bounds.Bounds.{Bounds}

-- from the least of three points' coordinates on axis i to the greatest
abbrev pub range_on : ℕ → List ℤ → List ℤ → List ℤ → Range
range_on i a b c = record {
  low = int_min (int_min (coordinate_of a i) (coordinate_of b i)) (coordinate_of c i);
  high = int_max (int_max (coordinate_of a i) (coordinate_of b i)) (coordinate_of c i);
}

-- the bounds of three points
abbrev pub bounds_of : List ℤ → List ℤ → List ℤ → Bounds
bounds_of a b c = record { x = range_on 0 a b c; y = range_on 1 a b c; z = range_on 2 a b c }

-- the bounds of a triangle
abbrev pub face_bounds : List (List ℤ) → Triple → Bounds
face_bounds points t = bounds_of (get_or points t.0 []) (get_or points t.1 []) (get_or points t.2 [])

-- bounds in steps of the grid as a box in fine steps
abbrev pub fine_box : Bounds → Box3
fine_box b = record {
  low = (UNIT *ℤ b.x.low) ∷ (UNIT *ℤ b.y.low) ∷ (UNIT *ℤ b.z.low) ∷ [];
  high = (UNIT *ℤ b.x.high) ∷ (UNIT *ℤ b.y.high) ∷ (UNIT *ℤ b.z.high) ∷ [];
}

-- the box of a triangle
abbrev pub face_box : List (List ℤ) → Triple → Box3
face_box points t = fine_box (face_bounds points t)

-- the boxes of triangles, in order
abbrev pub boxes_on : List (List ℤ) → List Triple → List Box3
boxes_on points ts = map (face_box points) ts

-- a step of the grid is so great a power of two of fine steps
pub record IsGridStep (shift : ℕ) : Type 0 where
  pub small : shift < 64
  pub same : UNIT ≡ pos (2 ^ shift)
