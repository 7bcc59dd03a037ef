-- The filling of loops: their rings, with every hole joined, are cut one after the other.
use Rattle.std.specs.Prelude.{ℕ, ◌+◌, ℤ, List, [], ◌∷◌, ◌++◌}
use Rattle.face_plane.specs.Planes.{Plane}
use Rattle.hole_joining.specs.Bridges.{join_holes}
use Rattle.hole_joining.specs.Laws.{settled_in}
use Rattle.ring_cutting.specs.Cuts.{Cut, cut_ring}

-- the triangles of two cuttings, and how many were forced in both
abbrev pub both : Cut → Cut → Cut
both c d = record { triples = c.triples ++ d.triples; forced = c.forced + d.forced }

-- the cuttings of rings, one after the other
abbrev pub cuts : Plane → List (List ℕ) → Cut
cuts at [] = record { triples = []; forced = 0 }
cuts at (r ∷ rs) = both (cut_ring at r) (cuts at rs)

-- the filling of loops in the plane that drops an axis, settled by the loops
abbrev pub fill_of : ℕ → List (List ℤ) → List (List ℕ) → Cut
fill_of drop_axis points loops = cuts (settled_in drop_axis points loops) (join_holes (settled_in drop_axis points loops) loops)
