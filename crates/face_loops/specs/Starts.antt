-- Where the edge from a vertex stands, and a sorted list that tells it.
use Rattle.std.specs.Prelude.{◌≡◌, ◌≢◌, ℕ, suc, ◌<◌, ◌≤◌, List, [], ◌∷◌, length, get_or, Option, Some, None}
use Rattle.std.specs.List.{All, Contains}
use Rattle.chain_terms.specs.Ranks.{start}
use Rattle.face_loops.specs.declared.starts.TheConstants.{FEW}

-- the start of each edge with its place, the first edge at place k
abbrev pub starts_from : ℕ → List (ℕ × ℕ) → List (ℕ × ℕ)
starts_from k [] = []
starts_from k (e ∷ es) = (e.0, k) ∷ starts_from (suc k) es

-- the start of each edge with its place
abbrev pub starts_of : List (ℕ × ℕ) → List (ℕ × ℕ)
starts_of es = starts_from 0 es

-- the first parts rise
abbrev pub RiseByStart : List (ℕ × ℕ) → Type 0
RiseByStart index = (i j : ℕ) → i ≤ j → j < length index → (get_or index i (0, 0)).0 ≤ (get_or index j (0, 0)).0

-- a place that the list has behind the vertex; none where it has none
abbrev pub IsListed : List (ℕ × ℕ) → ℕ → Option ℕ → Type 0
IsListed index v None = All (λ s. s.0 ≢ v) index
IsListed index v (Some place) = Contains index (v, place)

-- a place at which an edge from v stands; none where no edge starts there
abbrev pub IsStartOf : List (ℕ × ℕ) → ℕ → Option ℕ → Type 0
IsStartOf es v None = (k : ℕ) → k < length es → start es k ≢ v
IsStartOf es v (Some place) = (place < length es) × (start es place ≡ v)

-- the starts with their places, in a list whose first parts rise
pub record HasStarts (es index : List (ℕ × ℕ)) : Type 0 where
  pub rise : RiseByStart index
  pub each : All (Contains index) (starts_of es)
  pub only : All (Contains (starts_of es)) index

-- more than a few edges have such a list
abbrev pub IsIndex : (es index : List (ℕ × ℕ)) → Type 0
IsIndex es index = FEW < length es → HasStarts es index
