-- The planes of a side's faces.
use Rattle.std.specs.Prelude.{ℕ, get_or}
use Rattle.side_terms.specs.Sides.{Side}
use Rattle.face_plane.specs.Planes.{plane_drop}
use Rattle.source_face_terms.specs.Segments.{vertex_point}

-- the axis that the plane of a face drops
abbrev pub plane_drop_of : Side → ℕ → ℕ
plane_drop_of side f = let t = get_or side.triples f (0, 0, 0) in plane_drop (vertex_point side t.0) (vertex_point side t.1) (vertex_point side t.2)
