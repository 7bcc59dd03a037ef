-- The boxes of places.
use Rattle.std.specs.Prelude.{ℤ, List}
use Rattle.mb_base.specs.declared.point.Box3.{Box3}

-- the box of one point
abbrev pub point_box : List ℤ → Box3
point_box p = record { low = p; high = p }
