-- Points that are welded again with others.
use Rattle.std.specs.Prelude.{◌≡◌, ℤ, List, ◌++◌}
use Rattle.mesh_terms.specs.Meshes.{Mesh}
use Rattle.sheet_terms.specs.Crossings.{all_points, crossings}
use Rattle.sheet_terms.specs.Faces.{faces}
use Rattle.sheet_terms.specs.Places.{place_points}

-- the places of places and further points are those of all points
abbrev pub WeldsOnce : Type 0
WeldsOnce = (points more : List (List ℤ)) → place_points (place_points points ++ more) ≡ place_points (points ++ more)

-- so the points of remeshing are the places of the mesh's and those in which edges cross
abbrev pub AllPointsAre : Type 0
AllPointsAre = (m : Mesh) → all_points m ≡ place_points (m.points ++ crossings (place_points m.points) (faces (place_points m.points) m))
