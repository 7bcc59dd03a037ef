-- A surface: triangles over places, with their rims, labels and planes.
use Rattle.std.specs.Prelude.{◌≡◌, ◌↔◌, ℕ, ◌+◌, ◌<◌, ◌≤◌, ℤ, List, true, get_or, length, map}
use Rattle.std.specs.List.{All}
use Rattle.mesh_terms.specs.Limits.{most_points, most_triangles}
use Rattle.mesh_terms.specs.Meshes.{IsBelow, triples_of}
use Rattle.sheet_terms.specs.Crossings.{coplanar}
use Rattle.sheet_terms.specs.Cuts.{rim}
use Rattle.sheet_terms.specs.Faces.{Face, planes}
use Rattle.sheet_terms.specs.Places.{has_three}
use Rattle.edge_cutting.specs.Cut.{cut_rim}
use Rattle.plane_groups.specs.Grouped.{ArePlanes, bent, face_at}
use Rattle.plane_remesh.specs.declared.surface.CutSurface.{CutSurface}

-- it has the triangles `all`, with three places each
pub record IsSurface (points : List (List ℤ)) (all : List Face) (s : CutSurface) : Type 0 where
  pub stored : s.over.points.items ≡ points
  pub corners : triples_of s.over.triples.items ≡ map (λ f. f.corners) all
  pub numbers : s.over.sources.items ≡ map (λ f. f.number) all
  pub order : (i j : ℕ) → i < j → j < length all → (face_at all i).number < (face_at all j).number
  pub rims : All (λ f. f.rim ≡ rim points f.corners) all
  pub cut : All (λ f. cut_rim s.cuts f.corners ≡ f.rim) all
  pub same : (i j : ℕ) → i < length all → j < length all →
      (get_or s.labels.items i 0 ≡ get_or s.labels.items j 0) ↔ ((face_at all i).label ≡ (face_at all j).label)
  pub labelled : length s.labels.items ≡ length all
  pub planes : ArePlanes points all s.planes
  pub buckets : length s.planes.faces ≡ s.planes.count + 1
  pub few_points : length points ≤ most_points
  pub few : length all ≤ most_triangles
  pub below : All (λ f. IsBelow (length points) f.corners) all
  pub three : All (λ f. has_three f.corners ≡ true) all

-- the first triangle of plane k, and all of them
abbrev pub plane_at : List (List ℤ) → List Face → ℕ → Face
plane_at points all k = face_at (planes points (bent points all)) k

abbrev pub own_at : List (List ℤ) → List Face → ℕ → List Face
own_at points all k = coplanar points (bent points all) (plane_at points all k)
