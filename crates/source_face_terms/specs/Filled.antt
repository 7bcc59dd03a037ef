-- The fillings of source faces.
use Rattle.std.specs.Prelude.{ℕ, ◌+◌, ◌-◌, ℤ, List, [], ◌∷◌, ◌++◌, map, length, nat_lt, replicate, if◌then◌else◌}
use Rattle.std.specs.List.{flat_map, sum_by}
use Rattle.chain_terms.specs.Cycles.{cycles}
use Rattle.chain_terms.specs.Sums.{upto}
use Rattle.mesh_terms.specs.Meshes.{Triple}
use Rattle.side_terms.specs.Sides.{Side}
use Rattle.side_terms.specs.Lists.{Copy}
use Rattle.source_face_terms.specs.Segments.{place_of, segments_of, source_count}
use Rattle.source_face_terms.specs.Planes.{plane_drop_of}
use Rattle.ring_cutting.specs.Cuts.{Cut}
use Rattle.triangulate.specs.Fills.{fill_of}

-- where the copies lie
abbrev pub points_of_copies : List Copy → List (List ℤ)
points_of_copies cs = map (λ c. c.point) cs

-- the axis that the plane of source face x drops
abbrev pub source_drop : Side → Side → ℕ → ℕ
source_drop p q x = if nat_lt x (length p.triples) then plane_drop_of p x else plane_drop_of q (x - length p.triples)

-- the segments of source face x, between copies
abbrev pub face_segments : Side → Side → List Copy → ℕ → List (ℕ × ℕ)
face_segments p q cs x = segments_of p q cs (place_of cs) x

-- the filling of its loops
abbrev pub filled_face : Side → Side → List Copy → ℕ → Cut
filled_face p q cs x = fill_of (source_drop p q x) (points_of_copies cs) (cycles (face_segments p q cs x))

-- those of all source faces, in order
abbrev pub all_filled : Side → Side → List Copy → List Cut
all_filled p q cs = map (filled_face p q cs) (upto (source_count p q))

-- their triangles
abbrev pub all_triples : List Cut → List Triple
all_triples parts = flat_map (λ c. c.triples) parts

-- the number of the filling of each, the first filling being number x
abbrev pub sources_of : ℕ → List Cut → List ℕ
sources_of x [] = []
sources_of x (c ∷ cs) = replicate (length c.triples) x ++ sources_of (x + 1) cs

-- how many are forced in all
abbrev pub forced_of : List Cut → ℕ
forced_of parts = sum_by (λ c. c.forced) parts
