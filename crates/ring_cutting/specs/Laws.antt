-- What the cutting of every ring keeps, as statements.
use Rattle.std.specs.Prelude.{◌≡◌, ℕ, ◌+◌, ◌<◌, ◌≤◌, pos, ◌<ℤ◌, List, length}
use Rattle.std.specs.List.{All}
use Rattle.chain_terms.specs.Chains.{all_edges}
use Rattle.chain_terms.specs.Odd.{SameChain}
use Rattle.chain_terms.specs.Paths.{round_edges}
use Rattle.mesh_terms.specs.Meshes.{Triple, HasThree}
use Rattle.face_plane.specs.Planes.{Plane, orient}
use Rattle.face_plane.specs.Rings.{In, IsRing}
use Rattle.ring_cutting.specs.Cuts.{Cut}

-- a ring of at most 100,000,000 places, whose vertices are below n
pub record CanBeCut (n : ℕ) (r : List ℕ) : Type 0 where
  pub ringy : IsRing r
  pub few : length r ≤ 100000000
  pub below : All (λ v. v < n) r

-- the triangle turns left
abbrev pub TurnsLeft : Plane → Triple → Type 0
TurnsLeft at t = pos 0 <ℤ orient at t.0 t.1 t.2

-- its vertices stand in the ring
abbrev pub IsOf : List ℕ → Triple → Type 0
IsOf r t = In t.0 r × In t.1 r × In t.2 r

-- the cutting of a ring: two triangles fewer than places, its boundary, three different vertices of the ring in each
-- triangle, none counted as forced twice, and where none is forced each turns left
pub record IsCutting (at : Plane) (r : List ℕ) (c : Cut) : Type 0 where
  pub count : length c.triples + 2 ≡ length r
  pub chain : SameChain (all_edges c.triples) (round_edges r)
  pub three : All HasThree c.triples
  pub of : All (IsOf r) c.triples
  pub few : c.forced ≤ length c.triples
  pub left : c.forced ≡ 0 → All (TurnsLeft at) c.triples
