-- Boundaries compared by sorted lists of edges.
use Rattle.std.specs.Prelude.{◌≡◌, ◌↔◌, ℕ, List, ◌++◌, map, true}
use Rattle.std.specs.List.Sorted.{IsPermutation, IsSorted}
use Rattle.std.specs.declared.cmp.Ordering.{Ordering}
use Rattle.std.specs.Ordering.{nat_cmp, ordering_then}
use Rattle.chain_terms.specs.Chains.{boundary}
use Rattle.sheet_terms.specs.Filled.{same_boundary}

-- an edge the other way
abbrev pub turned : (ℕ × ℕ) → ℕ × ℕ
turned e = (e.1, e.0)

-- by the start, then by the end
abbrev pub edge_cmp : (ℕ × ℕ) → (ℕ × ℕ) → Ordering
edge_cmp x y = ordering_then (nat_cmp x.0 y.0) (nat_cmp x.1 y.1)

-- edges of one chain with the reversed ones of another in order, and the reverse of each in order
pub record AreWays (es ms there back : List (ℕ × ℕ)) : Type 0 where
  pub ahead : IsPermutation (es ++ map turned ms) there
  pub behind : IsPermutation (map turned es ++ ms) back
  pub up : IsSorted edge_cmp there
  pub up_too : IsSorted edge_cmp back

-- they are one list exactly where the chains have one boundary
pub record AreOne (es ms there back : List (ℕ × ℕ)) : Type 0 where
  pub one : there ≡ back → (a b : ℕ) → boundary es a b ≡ boundary ms a b
  pub same : ((a b : ℕ) → boundary es a b ≡ boundary ms a b) → there ≡ back

abbrev pub SortedAlike : Type 0
SortedAlike = (es ms there back : List (ℕ × ℕ)) → AreWays es ms there back → AreOne es ms there back

-- the test of the definition says so
abbrev pub BoundariesAreTested : Type 0
BoundariesAreTested = (es ms : List (ℕ × ℕ)) → (same_boundary es ms ≡ true) ↔ ((a b : ℕ) → boundary es a b ≡ boundary ms a b)
