-- What a filling keeps of its loops, and what the cuttings of several rings keep.
use Rattle.std.specs.Prelude.{◌≡◌, ℕ, ◌+◌, ◌*◌, ◌≤◌, List, length}
use Rattle.std.specs.List.{All, concat, flat_map}
use Rattle.chain_terms.specs.Chains.{all_edges}
use Rattle.chain_terms.specs.Odd.{SameChain}
use Rattle.chain_terms.specs.Paths.{round_edges}
use Rattle.chain_terms.specs.Sums.{total}
use Rattle.mesh_terms.specs.Meshes.{Triple, HasThree, IsBelow}
use Rattle.face_plane.specs.Planes.{Plane, orient, area}
use Rattle.hole_joining.specs.Holes.{ring_count, hole_count}
use Rattle.ring_cutting.specs.Cuts.{Cut}
use Rattle.ring_cutting.specs.Laws.{TurnsLeft}

-- one triangle for each vertex of the loops and two for each hole, less two for each ring
abbrev pub HasCount : Plane → List (List ℕ) → List Triple → Type 0
HasCount at loops ts = length ts + 2 * ring_count at loops ≡ length (concat loops) + 2 * hole_count at loops

-- the doubled areas of the triangles add up to those of the loops
abbrev pub HasAreas : Plane → List (List ℕ) → List Triple → Type 0
HasAreas at loops ts = total (λ t. orient at t.0 t.1 t.2) ts ≡ total (area at) loops

-- rings whose vertices are below n, and their cuttings: two triangles fewer than places for each ring, their boundary,
-- three different vertices below n in each triangle, and where none is forced each turns left
pub record AreCuttings (at : Plane) (n : ℕ) (rings : List (List ℕ)) (c : Cut) : Type 0 where
  pub count : length c.triples + 2 * length rings ≡ length (concat rings)
  pub chain : SameChain (all_edges c.triples) (flat_map round_edges rings)
  pub three : All HasThree c.triples
  pub below : All (IsBelow n) c.triples
  pub most : c.forced ≤ length c.triples
  pub left : c.forced ≡ 0 → All (TurnsLeft at) c.triples
