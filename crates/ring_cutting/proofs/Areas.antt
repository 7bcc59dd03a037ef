-- Triangles with the chain of a ring have its doubled area.
use Rattle.std.specs.Prelude.{◌≡◌, ℕ, ℤ, ◌-ℤ◌, List}
use Rattle.std.proofs.Common.{arith, sym, ◌∙◌}
use Rattle.std.proofs.lemmas.Int.{ints}
use Rattle.std.proofs.Math.IntN.{*ℤ_comm}
use Rattle.chain_terms.specs.Chains.{all_edges}
use Rattle.chain_terms.specs.Odd.{SameChain}
use Rattle.chain_terms.specs.Paths.{round_edges}
use Rattle.chain_terms.specs.Sums.{total}
use Rattle.chain_laws.specs.Sums.{total-same}
use Rattle.chain_laws.specs.Areas.{area_at, orientation}
use Rattle.chain_laws.proofs.Areas.{area_odd, areas_of_triangles}
use Rattle.mesh_terms.specs.Meshes.{Triple}
use Rattle.face_plane.specs.Planes.{Plane, orient, area}

-- the turn of a triangle is its doubled area
turn_is : (at : Plane) (t : Triple) → orient at t.0 t.1 t.2 ≡ orientation (λ v. (at v).0) (λ v. (at v).1) t
turn_is at t = omega (arith, ints, *ℤ_comm ((at t.1).1 -ℤ (at t.0).1) ((at t.2).0 -ℤ (at t.0).0))

-- triangles with the chain of a ring
pub areas : (at : Plane) (ring : List ℕ) (ts : List Triple) → SameChain (all_edges ts) (round_edges ring) →
    total (λ t. orient at t.0 t.1 t.2) ts ≡ area at ring
areas at ring ts same =
    let u : ℕ → ℤ = λ v. (at v).0 in
    let w : ℕ → ℤ = λ v. (at v).1 in
    total-same (λ (t : Triple). orient at t.0 t.1 t.2) (orientation u w) (turn_is at) ts ∙ sym (areas_of_triangles u w ts)
    ∙ same (area_at u w) (area_odd u w)
