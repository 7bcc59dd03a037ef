-- A mesh whose vertices are the fans of given triangles, as a statement.
use Rattle.std.specs.Prelude.{◌≡◌, ℕ, ◌<◌, ◌≤◌, ◌*◌, List, length, map}
use Rattle.std.specs.List.{All}
use Rattle.chain_terms.specs.Chains.{all_edges, dir}
use Rattle.face_plane.specs.Planes.{point_at}
use Rattle.halfedge.specs.Clean.{IsClean}
use Rattle.mesh_terms.specs.Meshes.{IsAccepted, Mesh, Soup}
use Rattle.pinch_split.specs.Back.{named_by}
use Rattle.sheet_terms.specs.Remesh.{fanned}
use Rattle.fan_laws.specs.Laws.{CanPart}

-- accepted, with one fan at each vertex and each directed edge once; each vertex lies where the given one lies from which it comes, triangle by triangle
pub record IsFanned (s : Soup) (m : Mesh) : Type 0 where
  pub accepted : IsAccepted (length m.points) m.triples
  pub clean : IsClean (all_edges m.triples)
  pub once : (a b : ℕ) → dir (all_edges m.triples) a b ≤ 1
  pub from : List ℕ
  pub below : All (λ v. v < length s.points) from
  pub places : m.points ≡ map (point_at s.points) from
  pub back : map (named_by from) m.triples ≡ s.triples
  pub labels : m.labels ≡ s.labels
  pub few : 2 * length m.points ≤ 3 * length m.triples

abbrev pub FannedIsClean : Type 0
FannedIsClean = (s : Soup) → CanPart (length s.points) s.triples → IsFanned s (fanned s)
