-- Which loops can be filled, and what joining keeps.
use Rattle.std.specs.Prelude.{◌≡◌, ℕ, ◌+◌, ◌*◌, ◌<◌, ◌≤◌, ℤ, List, length}
use Rattle.std.specs.List.{All, concat, flat_map}
use Rattle.chain_terms.specs.Odd.{SameChain}
use Rattle.chain_terms.specs.Paths.{round_edges}
use Rattle.chain_terms.specs.Sums.{total}
use Rattle.mesh_terms.specs.Limits.{most_halfedges}
use Rattle.face_loops.specs.Segments.{AreDifferent}
use Rattle.face_plane.specs.Planes.{Plane, area, settled_plane, plane_of, point_at}
use Rattle.face_plane.specs.Rings.{IsRing}
use Rattle.hole_joining.specs.Holes.{ring_count, hole_count}

-- the plane that drops an axis, exchanged where the areas of the loops add up to less than 0
abbrev pub settled_in : ℕ → List (List ℤ) → List (List ℕ) → Plane
settled_in drop_axis points loops = settled_plane (plane_of drop_axis (point_at points)) loops

-- loops whose holes can be joined: each has three vertices or more, each vertex has one of so many points, and there are at
-- most 60,000,000; one vertex may stand in them more than once
pub record AreLoops (loops : List (List ℕ)) (points : ℕ) : Type 0 where
  pub long : All (λ loop. 3 ≤ length loop) loops
  pub below : All (λ v. v < points) (concat loops)
  pub few : length (concat loops) ≤ most_halfedges

-- loops that can be filled: those, where all vertices of all loops are different
pub record AreFillable (loops : List (List ℕ)) (points : ℕ) : Type 0 where
  pub long : All (λ loop. 3 ≤ length loop) loops
  pub different : AreDifferent (concat loops)
  pub below : All (λ v. v < points) (concat loops)
  pub few : length (concat loops) ≤ most_halfedges

-- two places for each hole beside those of the loops
abbrev pub HasPlaces : Plane → List (List ℕ) → List (List ℕ) → Type 0
HasPlaces at loops rings = length (concat rings) ≡ length (concat loops) + 2 * hole_count at loops

-- the doubled areas of the rings add up to those of the loops
abbrev pub KeepsAreas : Plane → List (List ℕ) → List (List ℕ) → Type 0
KeepsAreas at loops rings = total (area at) rings ≡ total (area at) loops

-- what joining makes of any loops: one ring for each loop of area at least 0, each vertex of which has a point; two places
-- for each hole beside those of the loops; the same sums of every odd function, so the boundary and the area of the loops
pub record KeepsLoops (at : Plane) (loops rings : List (List ℕ)) (points : ℕ) : Type 0 where
  pub count : length rings ≡ ring_count at loops
  pub below : All (λ ring. All (λ v. v < points) ring) rings
  pub places : HasPlaces at loops rings
  pub chain : SameChain (flat_map round_edges rings) (flat_map round_edges loops)

-- what it makes of loops that can be filled: the same, and neighbours that differ and three different vertices in each ring
pub record IsJoining (at : Plane) (loops rings : List (List ℕ)) (points : ℕ) : Type 0 where
  pub count : length rings ≡ ring_count at loops
  pub ringy : All IsRing rings
  pub below : All (λ ring. All (λ v. v < points) ring) rings
  pub places : HasPlaces at loops rings
  pub chain : SameChain (flat_map round_edges rings) (flat_map round_edges loops)
