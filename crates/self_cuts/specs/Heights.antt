-- How far the corners of a triangle are over another.
use Rattle.std.specs.Prelude.{◌≡◌, ℤ, pos, Bool, ◌&&◌, ◌||◌, int_lt}
use Rattle.inspection_terms.specs.Inspected.{has_corner}
use Rattle.inspection_terms.specs.Triangles.{Corners}
use Rattle.solid_terms.specs.Solids.{volume}
use Rattle.self_cuts.specs.Places.{place}
use Rattle.self_cuts.specs.declared.face.Face.{Face}
use Rattle.self_cuts.specs.declared.height.Heights.{Heights}
use Rattle.self_cuts.specs.declared.triangle.Triangle.{Triangle}

-- they are the volumes of each corner with it
pub record AreHeights (over : Heights) (t o : Face) : Type 0 where
  pub a : over.a ≡ volume (place t.a) (place o.a) (place o.b) (place o.c)
  pub b : over.b ≡ volume (place t.b) (place o.a) (place o.b) (place o.c)
  pub c : over.c ≡ volume (place t.c) (place o.a) (place o.b) (place o.c)

-- the same of a triangle without its normal
pub record AreHeightsOf (over : Heights) (t : Triangle) (o : Face) : Type 0 where
  pub a : over.a ≡ volume (place t.a) (place o.a) (place o.b) (place o.c)
  pub b : over.b ≡ volume (place t.b) (place o.a) (place o.b) (place o.c)
  pub c : over.c ≡ volume (place t.c) (place o.a) (place o.b) (place o.c)

-- some of three numbers is above 0, and the corner of each that is not is a corner of the other triangle
abbrev pub over_by : ℤ → ℤ → ℤ → Corners → Corners → Bool
over_by a b c t o =
    (int_lt (pos 0) a || int_lt (pos 0) b || int_lt (pos 0) c) && (int_lt (pos 0) a || has_corner o t.0) && (int_lt (pos 0) b || has_corner o t.1)
    && (int_lt (pos 0) c || has_corner o t.2)

-- the same below 0
abbrev pub under_by : ℤ → ℤ → ℤ → Corners → Corners → Bool
under_by a b c t o =
    (int_lt a (pos 0) || int_lt b (pos 0) || int_lt c (pos 0)) && (int_lt a (pos 0) || has_corner o t.0) && (int_lt b (pos 0) || has_corner o t.1)
    && (int_lt c (pos 0) || has_corner o t.2)
