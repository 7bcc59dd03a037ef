-- Points of the grid in which edges of a plane cross: they become places too.
use Rattle.std.specs.Prelude.{ℤ, List, ◌++◌, Bool, ◌&&◌, ◌||◌, int_lt, filter}
use Rattle.std.specs.List.{flat_map}
use Rattle.std.specs.Ordering.{int_eq}
use Rattle.mesh_terms.specs.Meshes.{Mesh}
use Rattle.mesh_terms.specs.Points.{coordinate_of}
use Rattle.sheet_terms.specs.Chains.{ChainEdge, chain, crossing_point}
use Rattle.sheet_terms.specs.Faces.{Face, faces, in_plane, labels_of, planes, seen}
use Rattle.sheet_terms.specs.Places.{ordered, place_points}

-- the triangles in the plane of s
abbrev pub coplanar : List (List ℤ) → List Face → Face → List Face
coplanar points fs s = filter (in_plane points s) fs

-- the points in which edges of a chain cross
abbrev pub crossings_of : List (List ℤ) → Face → List ChainEdge → List (List ℤ)
crossings_of points s cs = flat_map (λ c. flat_map (λ d. crossing_point points (seen points s) c.edge d.edge) cs) cs

-- those of the plane of s
abbrev pub crossings_in : List (List ℤ) → List Face → Face → List (List ℤ)
crossings_in points fs s = let own = coplanar points fs s in crossings_of points s (chain (labels_of own) own)

-- by x, then by y, then by z
abbrev pub is_lower : List ℤ → List ℤ → Bool
is_lower p q =
    int_lt (coordinate_of p 0) (coordinate_of q 0)
    || (int_eq (coordinate_of p 0) (coordinate_of q 0)
    && (int_lt (coordinate_of p 1) (coordinate_of q 1) || (int_eq (coordinate_of p 1) (coordinate_of q 1) && int_lt (coordinate_of p 2) (coordinate_of q 2))))

-- those of all planes, in order
abbrev pub crossings : List (List ℤ) → List Face → List (List ℤ)
crossings points fs = ordered is_lower (flat_map (crossings_in points fs) (planes points fs))

-- the points of the places of a mesh, and then those: each once
abbrev pub all_points : Mesh → List (List ℤ)
all_points m =
    let points = place_points m.points in place_points (points ++ crossings points (faces points m))
