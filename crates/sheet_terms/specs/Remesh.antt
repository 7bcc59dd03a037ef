-- Remeshing: each plane of a mesh is filled anew by the net number of its sheets.
use Rattle.std.specs.Prelude.{ℕ, ℤ, List, Bool, ◌&&◌, ◌==◌, if◌then◌else◌, length, map, replicate, sum_by}
use Rattle.std.specs.List.{flat_map, list_all}
use Rattle.chain_terms.specs.Chains.{all_edges, dir}
use Rattle.face_plane.specs.Planes.{point_at}
use Rattle.mesh_terms.specs.Meshes.{Mesh, Soup, Triple, soup_of}
use Rattle.sheet_terms.specs.Crossings.{all_points}
use Rattle.sheet_terms.specs.Faces.{Face, faces, planes}
use Rattle.sheet_terms.specs.Filled.{Filling, fillings, keeps_boundary}
use Rattle.sheet_terms.specs.Needless.{side_edges}
use Rattle.sheet_terms.specs.Regions.{Side, all_sides}
use Rattle.sheet_terms.specs.Twins.{twins_by_angle}
use Rattle.sheet_terms.specs.Vertices.{parted_by, settled}

-- a remeshed mesh, how many planes have triangles, and how many triangles were kept
pub record Remeshed : Type 0 where
  pub mesh : Mesh
  pub planes : ℕ
  pub kept : ℕ

-- each edge runs as often as its reverse
abbrev pub is_closed : List (ℕ × ℕ) → Bool
is_closed es = list_all (λ e. dir es e.0 e.1 == dir es e.1 e.0) es

-- the triangles of all fillings, and the label of each
abbrev pub new_triples : List Filling → List Triple
new_triples gs = flat_map (λ g. g.triples) gs

abbrev pub new_labels : List Filling → List (List ℕ)
new_labels gs = flat_map (λ g. replicate (length g.triples) g.label) gs

-- no triangle was forced, each plane keeps its boundary, and the triangles are closed
abbrev pub is_sound : List (List ℤ) → List Face → List Side → List Filling → Bool
is_sound points fs ss gs =
    (sum_by (λ g. g.forced) gs == 0) && list_all (keeps_boundary points fs ss) (planes points fs) && is_closed (all_edges (new_triples gs))

-- a mesh with one vertex for each fan, whose twins are told by the angles round edges
abbrev pub fanned : Soup → Mesh
fanned s =
    let p = parted_by (length s.points) s.triples (settled (length s.points) s.triples (twins_by_angle s.points s.triples)) in
    record { points = map (point_at s.points) p.from; triples = p.triples; labels = s.labels }

-- the outcome of what fills the planes; the mesh as it was where that is not sound
abbrev pub outcome : Mesh → List (List ℤ) → List Face → List Side → List Filling → Remeshed
outcome m points fs ss gs =
    let count = length (planes points fs) in
    if is_sound points fs ss gs
    then record { mesh = fanned (soup_of points (new_triples gs) (new_labels gs)); planes = count; kept = sum_by (λ s. s.kept) ss }
    else record { mesh = m; planes = count; kept = length m.triples }

-- its sides are filled
abbrev pub with_sides : Mesh → List (List ℤ) → List Face → List Side → Remeshed
with_sides m points fs ss = outcome m points fs ss (fillings points (flat_map side_edges ss) ss)

abbrev pub with_faces : Mesh → List (List ℤ) → List Face → Remeshed
with_faces m points fs = with_sides m points fs (all_sides points fs)

abbrev pub with_points : Mesh → List (List ℤ) → Remeshed
with_points m points = with_faces m points (faces points m)

-- remeshing: over the points of the mesh and those in which edges of a plane cross
abbrev pub remeshed : Mesh → Remeshed
remeshed m = with_points m (all_points m)
