-- What a remeshed mesh is, as statements.
use Rattle.std.specs.Prelude.{◌≡◌, ◌⊎◌, ℕ, ◌*◌, ◌≤◌, ℤ, pos, List, Bool, true, false, ◌&&◌, int_lt, length, count_by}
use Rattle.std.specs.List.{All, Contains, flat_map}
use Rattle.chain_terms.specs.Chains.{all_edges, dir}
use Rattle.cover_laws.specs.Covers.{IsInside, IsOutside, cover, place}
use Rattle.face_plane.specs.Planes.{Plane}
use Rattle.halfedge.specs.Clean.{IsClean}
use Rattle.mesh_terms.specs.Given.{IsGiven}
use Rattle.mesh_terms.specs.Limits.{most_triangles}
use Rattle.mesh_terms.specs.Meshes.{Mesh, Triple}
use Rattle.mesh_terms.specs.Volume.{volume6_of}
use Rattle.plane_laws.specs.Areas.{Place, area}
use Rattle.ring_cutting.specs.Laws.{TurnsLeft}
use Rattle.sheet_terms.specs.Crossings.{all_points}
use Rattle.sheet_terms.specs.Faces.{Face, faces, planes, seen}
use Rattle.sheet_terms.specs.Filled.{fillings}
use Rattle.sheet_terms.specs.Needless.{side_edges}
use Rattle.sheet_terms.specs.Regions.{Side, all_sides}
use Rattle.sheet_terms.specs.Remesh.{Remeshed, is_sound, remeshed}
use Rattle.sheet_laws.specs.Planes.{enlarged, new_in_plane, old_in_plane}

-- the place p against a triangle of a plane: inside it, or outside; it lies on no edge
abbrev pub IsInsideOf : Plane → Place → Triple → Type 0
IsInsideOf at p t = IsInside true p (place (at t.0)) (place (at t.1)) (place (at t.2))

abbrev pub IsOffEdges : Plane → Place → Triple → Type 0
IsOffEdges at p t = IsInsideOf at p t ⊎ IsOutside true p (place (at t.0)) (place (at t.1)) (place (at t.2))

-- the same as a test
abbrev pub is_inside_of : Plane → Place → Triple → Bool
is_inside_of at p t =
    let a = place (at t.0) in
    let b = place (at t.1) in
    let c = place (at t.2) in int_lt (pos 0) (area a b p) && int_lt (pos 0) (area b c p) && int_lt (pos 0) (area c a p)

-- no folds: where all new triangles of a plane turn left as seen from the side of s, each place off their edges lies inside as many of
-- them as the net number of the old ones says
abbrev pub HasNoFolds : List (List ℤ) → List Face → List Side → Face → Type 0
HasNoFolds points fs ss s = (k : ℤ) (p : Place) →
    (let at = enlarged k (seen points s) in
    let new = new_in_plane points ss s in
    All (TurnsLeft at) new → All (IsOffEdges at p) new → pos (count_by (is_inside_of at p) new) ≡ cover at p (old_in_plane points fs s))

-- where what fills the planes of a mesh is sound, planes do not fold
abbrev pub SoundPlanesDoNotFold : Type 0
SoundPlanesDoNotFold = (points : List (List ℤ)) (m : Mesh) →
    (let fs = faces points m in
    let ss = all_sides points fs in
    is_sound points fs ss (fillings points (flat_map side_edges ss) ss) ≡ true → All (HasNoFolds points fs ss) (planes points fs))

-- whether what fills the planes of a mesh is taken
abbrev pub is_taken : Mesh → Bool
is_taken m =
    let points = all_points m in
    let fs = faces points m in
    let ss = all_sides points fs in is_sound points fs ss (fillings points (flat_map side_edges ss) ss)

-- one fan at each vertex, and each directed edge at most once
pub record IsParted (r : Remeshed) : Type 0 where
  pub clean : IsClean (all_edges r.mesh.triples)
  pub once : (a b : ℕ) → dir (all_edges r.mesh.triples) a b ≤ 1

-- what remeshing makes of a mesh that a run may hold: such a mesh, of the same volume, with no label that the given one has not; no more triangles are kept
-- than there were; where the filling is taken it is parted, and where it is not it is the given one
pub record IsRemeshed (m : Mesh) (r : Remeshed) : Type 0 where
  pub given : IsGiven r.mesh
  pub few_points : 2 * length r.mesh.points ≤ 3 * length r.mesh.triples
  pub volume : volume6_of r.mesh.points r.mesh.triples ≡ volume6_of m.points m.triples
  pub labels : All (Contains m.labels) r.mesh.labels
  pub kept : r.kept ≤ length m.triples
  pub parted : is_taken m ≡ true → IsParted r
  pub left : is_taken m ≡ false → (r.mesh ≡ m) × (r.kept ≡ length m.triples)

-- it is that where it has not too many triangles
abbrev pub RemeshedIsGiven : Type 0
RemeshedIsGiven = (m : Mesh) → IsGiven m → length (remeshed m).mesh.triples ≤ most_triangles → IsRemeshed m (remeshed m)
