-- Pairs gathered: for each the first that is the same, and all that have one first.
use Rattle.std.specs.Prelude.{◌≡◌, ◌<◌, ℕ, Bool, List, length, get_or, map}
use Rattle.chain_terms.specs.Sums.{upto}
use Rattle.places_by_key.specs.Buckets.{places_of}
use Rattle.sheet_terms.specs.Chains.{same_edge}
use Rattle.sheet_terms.specs.Vertices.{first_as}

pub record AreGathered (pairs : List (ℕ × ℕ)) (firsts : List ℕ) (groups : List (List ℕ)) : Type 0 where
  pub firsts_are : firsts ≡ map (first_as pairs) (upto (length pairs))
  pub groups_are : groups ≡ map (places_of firsts) (upto (length pairs))

-- where a pair starts
abbrev pub start_of : ℕ × ℕ → ℕ
start_of pair = pair.0

-- both numbers of a pair are below n
abbrev pub IsPairBelow : ℕ → ℕ × ℕ → Type 0
IsPairBelow n pair = (pair.0 < n) × (pair.1 < n)

-- each is the first of the pairs that are the same as it
pub record AreLeads (pairs : List (ℕ × ℕ)) (leads : List ℕ) : Type 0 where
  pub below : (k : ℕ) → k < length leads → 0 < length pairs → get_or leads k 0 < length pairs
  pub first : (k : ℕ) → k < length leads → first_as pairs (get_or leads k 0) ≡ get_or leads k 0

-- what stands beside the end of pair h
abbrev pub lead_of : List (ℕ × ℕ) → List ℕ → ℕ → ℕ
lead_of pairs leads h = get_or leads (get_or pairs h (0, 0)).1 0

-- that is the number of the same pair
abbrev pub leads_same : List (ℕ × ℕ) → List ℕ → ℕ → Bool
leads_same pairs leads h = same_edge (get_or pairs (lead_of pairs leads h) (0, 0)) (get_or pairs h (0, 0))
