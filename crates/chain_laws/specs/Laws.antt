-- The main laws, as statements.
use Rattle.std.specs.Prelude.{◌≡◌, ◌≢◌, ◌↔◌, ℕ, ◌<◌, ℤ, pos, neg_ℤ, ◌+ℤ◌, ◌-ℤ◌, ◌≤ℤ◌, List, Bool, map, length}
use Rattle.std.specs.List.{flat_map, Contains}
use Rattle.std.specs.List.Sorted.{IsPermutation}
use Rattle.chain_terms.specs.Sums.{total}
use Rattle.chain_terms.specs.Chains.{IsClosed, boundary, edges, all_edges}
use Rattle.chain_laws.specs.Areas.{area_at, orientation}
use Rattle.chain_terms.specs.Odd.{IsOdd, along, SameChain}
use Rattle.chain_terms.specs.Cycles.{Balanced, cycles}
use Rattle.chain_laws.specs.Identities.{crossing, winding}
use Rattle.chain_terms.specs.Paths.{round_edges}
use Rattle.chain_terms.specs.Permutations.{AreInverse, Returns}
use Rattle.chain_terms.specs.Ranks.{twin, RunsBack}
use Rattle.chain_laws.specs.Signs.{whole, number, weight}
use Rattle.chain_laws.specs.Triples.{renamed_triple}

-- a chain is closed exactly where every odd function adds up to nothing over it
abbrev pub ClosedMeansOddSumsVanish : Type 0
ClosedMeansOddSumsVanish = (es : List (ℕ × ℕ)) → IsClosed es ↔ ((f : ℕ → ℕ → ℤ) → IsOdd f → total (along f) es ≡ pos 0)

-- closed triangles stay closed under every renaming of their vertices
abbrev pub RenamingKeepsClosed : Type 0
RenamingKeepsClosed = (r : ℕ → ℕ) (ts : List (ℕ × ℕ × ℕ)) → IsClosed (all_edges ts) → IsClosed (all_edges (map (renamed_triple r) ts))

-- two chains have one boundary exactly where every odd function has one sum over both
abbrev pub BoundaryDecidesSums : Type 0
BoundaryDecidesSums = (es ms : List (ℕ × ℕ)) → ((a b : ℕ) → boundary es a b ≡ boundary ms a b) ↔ SameChain es ms

-- triangles with the boundary of a chain have its doubled area
abbrev pub BoundaryGivesArea : Type 0
BoundaryGivesArea = (u v : ℕ → ℤ) (ts : List (ℕ × ℕ × ℕ)) (es : List (ℕ × ℕ)) →
    ((a b : ℕ) → boundary (all_edges ts) a b ≡ boundary es a b) → total (orientation u v) ts ≡ total (along (area_at u v)) es

-- with closed triangles the winding number changes along an edge by the crossings of the edge
abbrev pub EdgesConserve : Type 0
EdgesConserve = (ends : ℕ → (ℕ × ℕ × ℕ) → ℤ) (sides : ℕ → ℕ → ℕ → ℕ → ℤ) → ((a b : ℕ) → IsOdd (sides a b)) → (gs : List (ℕ × ℕ × ℕ)) → IsClosed (all_edges gs) →
    (a b : ℕ) → winding ends b gs -ℤ winding ends a gs ≡ neg_ℤ (total (crossing ends sides a b) gs)

-- the crossings of the edges of f with g add up to those of f with the edges of g
abbrev pub PairsAgree : Type 0
PairsAgree = (up down : ℕ → ℤ) (sides : (ℕ × ℕ) → (ℕ × ℕ) → ℤ) (f g : ℕ × ℕ × ℕ) →
    total (λ e. (up e.1 -ℤ up e.0) -ℤ total (sides e) (edges g)) (edges f) ≡ total (λ d. (down d.1 -ℤ down d.0) -ℤ total (λ e. sides e d) (edges f)) (edges g)

-- twice the number differs from the whole by at most the weight
abbrev pub NumberIsWithin : Type 0
NumberIsWithin = (es : List (ℤ × Bool)) →
    (neg_ℤ (pos (weight es)) ≤ℤ (number es +ℤ number es -ℤ whole es)) × ((number es +ℤ number es -ℤ whole es) ≤ℤ pos (weight es))

-- where the whole is 0 and the number is not, some entry with a count is above, and some is not
abbrev pub NumberHasBothSides : Type 0
NumberHasBothSides = (es : List (ℤ × Bool)) → whole es ≡ pos 0 → number es ≢ pos 0 → (b : Bool) → (e : ℤ × Bool) × (Contains es e) × (e.0 ≢ pos 0) × (e.1 ≡ b)

-- on a closed chain the twin runs back, and its twin is the edge again
abbrev pub TwinsPairUp : Type 0
TwinsPairUp = (es : List (ℕ × ℕ)) → IsClosed es → (h : ℕ) → h < length es → RunsBack es h (twin es h) × (twin es (twin es h) ≡ h)

-- going along a map of the numbers below n that has an inverse leads back, in at most n steps
abbrev pub WalksReturn : Type 0
WalksReturn = (s t : ℕ → ℕ) (n : ℕ) → AreInverse s t n → (x : ℕ) → x < n → Returns s n x

-- the edges round the cycles of a balanced chain are its edges, in another order
abbrev pub CyclesHaveTheEdges : Type 0
CyclesHaveTheEdges = (es : List (ℕ × ℕ)) → Balanced es → IsPermutation es (flat_map round_edges (cycles es))
