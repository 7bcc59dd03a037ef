-- What is kept where rings and triangles are made of others: their boundary, and that each is a proper one.
use Rattle.std.specs.Prelude.{◌≡◌, ◌<◌, ℕ, List}
use Rattle.std.specs.List.{All}
use Rattle.chain_terms.specs.Chains.{boundary}
use Rattle.chain_terms.specs.Odd.{SameChain}
use Rattle.mesh_terms.specs.Meshes.{HasThree, IsBelow, Triple}
use Rattle.face_plane.specs.Rings.{IsRing}

-- the chain has the boundary of another, and every odd function the same sum over both
pub record KeepsChain (made given : List (ℕ × ℕ)) : Type 0 where
  pub boundary : (a b : ℕ) → boundary made a b ≡ boundary given a b
  pub chain : SameChain made given

-- rings, whose vertices are below n
pub record AreRings (n : ℕ) (rings : List (List ℕ)) : Type 0 where
  pub ringy : All IsRing rings
  pub below : All (λ ring. All (λ v. v < n) ring) rings

-- triangles of three different vertices each, all below n
pub record AreProper (n : ℕ) (ts : List Triple) : Type 0 where
  pub three : All HasThree ts
  pub below : All (IsBelow n) ts
