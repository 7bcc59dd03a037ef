-- Conservation: the edge identity and the pair identity, over any shadows.
use Rattle.std.specs.Prelude.{◌≡◌, ℕ, ℤ, neg_ℤ, ◌-ℤ◌, List, [], ◌∷◌}
use Rattle.std.proofs.Common.{arith}
use Rattle.std.proofs.lemmas.Int.{ints}
use Rattle.chain_terms.specs.Sums.{total}
use Rattle.chain_terms.specs.Chains.{IsClosed, edges, all_edges}
use Rattle.chain_laws.specs.Sums.{total-append, total-swap}
use Rattle.chain_terms.specs.Odd.{IsOdd, along}
use Rattle.chain_laws.specs.Chains.{odd_sum}
use Rattle.chain_laws.specs.Identities.{crossing, winding}

-- the crossings of an edge with all triangles, by ends and sides
pub crossings_sum : (ends : ℕ → (ℕ × ℕ × ℕ) → ℤ) (sides : ℕ → ℕ → ℕ → ℕ → ℤ) (a b : ℕ) (gs : List (ℕ × ℕ × ℕ)) →
    total (crossing ends sides a b) gs ≡ total (ends b) gs -ℤ total (ends a) gs -ℤ total (along (sides a b)) (all_edges gs)
crossings_sum ends sides a b [] = omega (arith, ints)
crossings_sum ends sides a b (g ∷ gs) = omega (arith, ints, crossings_sum ends sides a b gs, total-append (along (sides a b)) (edges g) (all_edges gs))

-- the edge identity: with closed triangles, the winding number changes along an edge by the crossings of the edge
pub edge_identity : (ends : ℕ → (ℕ × ℕ × ℕ) → ℤ) (sides : ℕ → ℕ → ℕ → ℕ → ℤ) → ((a b : ℕ) → IsOdd (sides a b)) → (gs : List (ℕ × ℕ × ℕ)) → IsClosed (all_edges gs) →
    (a b : ℕ) → winding ends b gs -ℤ winding ends a gs ≡ neg_ℤ (total (crossing ends sides a b) gs)
edge_identity ends sides odd gs closed a b = omega (arith, ints, crossings_sum ends sides a b gs, odd_sum (sides a b) (odd a b) (all_edges gs) closed)

-- round a triangle the differences of g drop out
pub round_drops : (f : (ℕ × ℕ) → ℤ) (g : ℕ → ℤ) (t : ℕ × ℕ × ℕ) → total (λ e. (g e.1 -ℤ g e.0) -ℤ f e) (edges t) ≡ neg_ℤ (total f (edges t))
round_drops f g t = omega (arith, ints)

-- the pair identity: the crossings of the edges of f with g add up to those of f with the edges of g
pub pair_identity : (up down : ℕ → ℤ) (sides : (ℕ × ℕ) → (ℕ × ℕ) → ℤ) (f g : ℕ × ℕ × ℕ) →
    total (λ e. (up e.1 -ℤ up e.0) -ℤ total (sides e) (edges g)) (edges f) ≡ total (λ d. (down d.1 -ℤ down d.0) -ℤ total (λ e. sides e d) (edges f)) (edges g)
pair_identity up down sides f g =
    omega (arith, ints, round_drops (λ e. total (sides e) (edges g)) up f, round_drops (λ d. total (λ e. sides e d) (edges f)) down g, total-swap sides (edges f) (edges g))
