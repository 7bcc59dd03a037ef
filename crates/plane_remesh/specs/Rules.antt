-- What remeshing gives: meshes of new triangles.
use Rattle.std.specs.Prelude.{◌≡◌, ◌&&◌, ℤ, List, Bool, map}
use Rattle.chain_terms.specs.Chains.{all_edges}
use Rattle.face_plane.specs.Planes.{point_at}
use Rattle.mesh_terms.specs.Labels.{no_labels}
use Rattle.mesh_terms.specs.Meshes.{Mesh, Triple, renumbered, soup_of, used_from}
use Rattle.sheet_terms.specs.Remesh.{Remeshed as TheRemeshed, fanned, is_closed, new_labels, new_triples}
use Rattle.fan_laws.specs.Laws.{parted}
use Rattle.plane_remesh.specs.declared.outcome.Remeshed.{Remeshed}
use Rattle.plan_laws.specs.Placed.{placed_faces}
use Rattle.plane_remesh.specs.Plans.{fillings_of, fills}

-- triangles over the points that they use, with empty labels
pub record IsOfUsed (points : List (List ℤ)) (ts : List Triple) (m : Mesh) : Type 0 where
  pub used : m.points ≡ used_from ts 0 points
  pub triples : m.triples ≡ renumbered ts
  pub labels : m.labels ≡ no_labels ts

-- triangles with one vertex for each fan, with empty labels
pub record IsParted (points : List (List ℤ)) (ts : List Triple) (m : Mesh) : Type 0 where
  pub fans : m.points ≡ map (point_at points) (parted points ts).from
  pub triples : m.triples ≡ (parted points ts).triples
  pub labels : m.labels ≡ no_labels ts

-- first the one, then the other
abbrev pub IsFanned : List (List ℤ) → List Triple → Mesh → Type 0
IsFanned points ts m = IsParted (used_from ts 0 points) (renumbered ts) m

-- the mesh and the numbers are those of the definition
pub record IsRemeshed (r : Remeshed) (d : TheRemeshed) : Type 0 where
  pub mesh : r.mesh ≡ d.mesh
  pub planes : r.planes ≡ d.planes
  pub kept : r.kept ≡ d.kept

-- what fills the planes of a mesh over given points is taken
abbrev pub makes : List (List ℤ) → Mesh → Bool
makes points m =
    let all = placed_faces points m in fills points all && is_closed (all_edges (new_triples (fillings_of points all)))

-- and this is the mesh of it
abbrev pub IsMade : List (List ℤ) → Mesh → Mesh → Type 0
IsMade points m new =
    let gs = fillings_of points (placed_faces points m) in new ≡ fanned (soup_of points (new_triples gs) (new_labels gs))
