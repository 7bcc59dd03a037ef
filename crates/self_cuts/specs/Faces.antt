-- Triangles as three vectors.
use Rattle.inspection_terms.specs.Triangles.{Corners}
use Rattle.self_cuts.specs.Places.{place}
use Rattle.self_cuts.specs.declared.face.Face.{Face}
use Rattle.self_cuts.specs.declared.triangle.Triangle.{Triangle}

-- the corners of a triangle
abbrev pub corners : Face → Corners
corners f = (place f.a, place f.b, place f.c)

-- the same of a triangle without its normal
abbrev pub places : Triangle → Corners
places t = (place t.a, place t.b, place t.c)
