-- What filling each plane anew keeps of it, as statements.
use Rattle.std.specs.Prelude.{◌≡◌, ℕ, ℤ, ◌*ℤ◌, List, true, filter, map}
use Rattle.std.specs.List.{All, flat_map}
use Rattle.chain_terms.specs.Chains.{all_edges}
use Rattle.chain_terms.specs.Sums.{total}
use Rattle.cover_laws.specs.Covers.{cover}
use Rattle.face_plane.specs.Planes.{Plane, orient}
use Rattle.hole_joining.specs.Laws.{settled_in}
use Rattle.mesh_terms.specs.Meshes.{Mesh, Triple}
use Rattle.plane_laws.specs.Areas.{Place}
use Rattle.ring_cutting.specs.Laws.{TurnsLeft}
use Rattle.sheet_terms.specs.Faces.{Face, drop_of, faces, in_plane, planes, seen}
use Rattle.sheet_terms.specs.Filled.{filled, fillings, loops}
use Rattle.sheet_terms.specs.Needless.{side_edges}
use Rattle.sheet_terms.specs.Regions.{Region, Side, all_sides}
use Rattle.sheet_terms.specs.Remesh.{is_sound}
use Rattle.sheet_laws.specs.Lines.{SameOnLines}

-- the triangles with which a side of a plane is filled
abbrev pub side_triples : List (List ℤ) → List (ℕ × ℕ) → Side → List Triple
side_triples points es s = flat_map (λ r. (filled points es s r).triples) s.regions

-- those of both sides of the plane of s
abbrev pub new_in_plane : List (List ℤ) → List Side → Face → List Triple
new_in_plane points ss s = flat_map (side_triples points (flat_map side_edges ss)) (filter (λ t. in_plane points s t.face) ss)

-- the triangles that were there
abbrev pub old_in_plane : List (List ℤ) → List Face → Face → List Triple
old_in_plane points fs s = map (λ f. f.corners) (filter (in_plane points s) fs)

-- a plane k times as large: its grid then has all points with k-th parts of steps
abbrev pub enlarged : ℤ → Plane → Plane
enlarged k at v = (k *ℤ (at v).0, k *ℤ (at v).1)

-- what a plane keeps, by the new triangles and the old ones: their boundary, once edges are cut where places lie on them; how often
-- each point is covered, those that turn right less; and the sum of their areas
pub record KeepsPlane (points : List (List ℤ)) (at : Plane) (new old : List Triple) : Type 0 where
  pub boundary : SameOnLines points (all_edges new) (all_edges old)
  pub covers : (k : ℤ) (p : Place) → cover (enlarged k at) p new ≡ cover (enlarged k at) p old
  pub areas : total (λ t. orient at t.0 t.1 t.2) new ≡ total (λ t. orient at t.0 t.1 t.2) old

-- where what fills the planes of a mesh is sound, each plane is kept
abbrev pub SoundPlanesAreKept : Type 0
SoundPlanesAreKept = (points : List (List ℤ)) (m : Mesh) →
    (let fs = faces points m in
    let ss = all_sides points fs in
    is_sound points fs ss (fillings points (flat_map side_edges ss) ss) ≡ true →
    All (λ s. KeepsPlane points (seen points s) (new_in_plane points ss s) (old_in_plane points fs s)) (planes points fs))

-- each triangle of a region turns left in the plane of its filling: none is flat
abbrev pub FillsLeft : List (List ℤ) → List (ℕ × ℕ) → Side → Region → Type 0
FillsLeft points es s r = All (TurnsLeft (settled_in (drop_of points s.face) points (loops points (seen points s.face) es r))) (filled points es s r).triples

-- where it is sound, each region is
abbrev pub SoundRegionsTurnLeft : Type 0
SoundRegionsTurnLeft = (points : List (List ℤ)) (fs : List Face) (ss : List Side) →
    is_sound points fs ss (fillings points (flat_map side_edges ss) ss) ≡ true → All (λ s. All (FillsLeft points (flat_map side_edges ss) s) s.regions) ss
