-- Motions of points and of meshes, and why a mesh is not moved.
use Rattle.std.specs.Prelude.{◌≤◌, ◌<◌, ℕ, ℤ, pos, neg_ℤ, ◌*ℤ◌, List, map, if◌then◌else◌, ◌==◌, Option, None}
use Rattle.mesh_terms.specs.Meshes.{Triple, Mesh}
use Rattle.mesh_terms.specs.Points.{IsPoint, coordinate_of}
use Rattle.made_terms.specs.Refusals.{MadeFault, moved_fault}
use Rattle.made_terms.specs.Solids.{point, moved}
use Rattle.made_terms.specs.declared.motion.Motion.{Motion}
use Rattle.made_terms.specs.declared.motion.Motion.TheVariants.{Shift, Scale, Mirror, Turn}

-- the coordinates of `by` are added
abbrev pub shifted : List ℤ → List ℤ → List ℤ
shifted by p = moved (coordinate_of by 0) (coordinate_of by 1) (coordinate_of by 2) p

-- each coordinate is multiplied
abbrev pub scaled : ℤ → List ℤ → List ℤ
scaled factor p = point (factor *ℤ coordinate_of p 0) (factor *ℤ coordinate_of p 1) (factor *ℤ coordinate_of p 2)

-- one coordinate gets the other sign
abbrev pub mirrored : ℕ → List ℤ → List ℤ
mirrored axis p =
    if axis == 0 then point (neg_ℤ (coordinate_of p 0)) (coordinate_of p 1) (coordinate_of p 2)
    else if axis == 1 then point (coordinate_of p 0) (neg_ℤ (coordinate_of p 1)) (coordinate_of p 2)
    else point (coordinate_of p 0) (coordinate_of p 1) (neg_ℤ (coordinate_of p 2))

-- so the triangles are turned over: the last two vertices are exchanged
abbrev pub turned_over : Triple → Triple
turned_over t = (t.0, t.2, t.1)

-- a quarter turn about x, y or z
abbrev pub quarter_turned : ℕ → List ℤ → List ℤ
quarter_turned axis p =
    if axis == 0 then point (coordinate_of p 0) (neg_ℤ (coordinate_of p 2)) (coordinate_of p 1)
    else if axis == 1 then point (coordinate_of p 2) (coordinate_of p 1) (neg_ℤ (coordinate_of p 0))
    else point (neg_ℤ (coordinate_of p 1)) (coordinate_of p 0) (coordinate_of p 2)

-- the numbers of a motion are in their range
abbrev pub IsMotion : Motion → Type 0
IsMotion (Shift by) = IsPoint by
IsMotion (Scale factor) = (1 ≤ factor) × (factor ≤ 1000000)
IsMotion (Mirror axis) = axis < 3
IsMotion (Turn axis) = axis < 3

-- where the points go
abbrev pub motion_points : Motion → List (List ℤ) → List (List ℤ)
motion_points (Shift by) points = map (shifted by) points
motion_points (Scale factor) points = map (scaled (pos factor)) points
motion_points (Mirror axis) points = map (mirrored axis) points
motion_points (Turn axis) points = map (quarter_turned axis) points

-- only a mirror turns the triangles over
abbrev pub motion_triples : Motion → List Triple → List Triple
motion_triples (Shift by) ts = ts
motion_triples (Scale factor) ts = ts
motion_triples (Mirror axis) ts = map turned_over ts
motion_triples (Turn axis) ts = ts

-- why these points are not moved: a mirror or a quarter turn takes no point off the grid
abbrev pub motion_fault : Motion → List (List ℤ) → Option MadeFault
motion_fault (Shift by) points = moved_fault (motion_points (Shift by) points)
motion_fault (Scale factor) points = moved_fault (motion_points (Scale factor) points)
motion_fault (Mirror axis) points = None
motion_fault (Turn axis) points = None

-- each triangle keeps its label
abbrev pub moved_mesh : Motion → Mesh → Mesh
moved_mesh motion m = record { points = motion_points motion m.points; triples = motion_triples motion m.triples; labels = m.labels }
