-- Segments as directed edges, and when they form loops that share no vertex.
use Rattle.std.specs.Prelude.{◌≡◌, ◌≢◌, ℕ, ◌<◌, ◌≤◌, ◌==◌, ◌&&◌, Bool, List, [], count_by, map, length, get_or, take}
use Rattle.std.specs.List.{concat, Contains}
use Rattle.chain_terms.specs.Cycles.{Balanced, out}
use Rattle.chain_terms.specs.Ranks.{start}
use Rattle.mb_base.specs.declared.results.Segment.{Segment}

-- the edge of a segment
abbrev pub edge_of : Segment → ℕ × ℕ
edge_of s = (s.from, s.to)

-- the edges of the segments, in order
abbrev pub edges_of : List Segment → List (ℕ × ℕ)
edges_of segments = map edge_of segments

-- each vertex that occurs starts one edge and ends one
pub record IsOneToOne (es : List (ℕ × ℕ)) : Type 0 where
  pub balanced : Balanced es
  pub once : (x : ℕ) → out es x ≤ 1

-- a vertex starts one of the segments and ends one, as a test that computes
abbrev pub is_once : List Segment → ℕ → Bool
is_once segments v = count_by (λ s. s.from == v) segments == 1 && count_by (λ s. s.to == v) segments == 1

-- no vertex stands at two places
abbrev pub AreDifferent : List ℕ → Type 0
AreDifferent vs = (i j : ℕ) → i < j → j < length vs → get_or vs i 0 ≢ get_or vs j 0

-- loop k begins with an edge's start, and the edges before that one start in earlier loops
pub record BeginsNext (es : List (ℕ × ℕ)) (loops : List (List ℕ)) (k : ℕ) : Type 0 where
  pub place : ℕ
  pub within : place < length es
  pub begins : get_or (get_or loops k []) 0 0 ≡ start es place
  pub before : (j : ℕ) → j < place → Contains (concat (take k loops)) (start es j)

-- each loop begins with the first edge that no earlier loop has
abbrev pub BeginInOrder : List (ℕ × ℕ) → List (List ℕ) → Type 0
BeginInOrder es loops = (k : ℕ) → k < length loops → BeginsNext es loops k
