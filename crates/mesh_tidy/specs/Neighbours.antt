-- Vertices that are joined to others.
use Rattle.std.specs.Prelude.{◌≡◌, ◌/◌, ◌<◌, ◌⊎◌, ℕ, List, Bool, false, not, ◌&&◌, ◌==◌, cond, nat_lt, get_or, length}
use Rattle.chain_terms.specs.Chains.{all_edges, dir}
use Rattle.chain_terms.specs.Ranks.{finish}
use Rattle.mesh_tidy.specs.TidySurface.{TidySurface}

-- the half-edge is left, and ends at the vertex
abbrev pub ends_at : TidySurface → ℕ → ℕ → Bool
ends_at s w h = get_or s.left (h / 3) false && (finish (all_edges s.triples) h == w)

-- the half-edge is left, and ends at a vertex that has a mark and is neither c nor d
abbrev pub meets_another : TidySurface → List Bool → ℕ → ℕ → ℕ → Bool
meets_another s met c d h =
    get_or s.left (h / 3) false && (get_or met (finish (all_edges s.triples) h) false
    && (not (finish (all_edges s.triples) h == c) && not (finish (all_edges s.triples) h == d)))

-- one edge runs from a to b, and one from each of them to c and to d
abbrev pub are_single : List (ℕ × ℕ) → ℕ → ℕ → ℕ → ℕ → Bool
are_single es a b c d = (dir es a b == 1) && (dir es a c == 1) && (dir es a d == 1) && (dir es b c == 1) && (dir es b d == 1)

-- no vertex but c and d has an edge from a and one from b
abbrev pub MeetOnly : List (ℕ × ℕ) → ℕ → ℕ → ℕ → ℕ → Type 0
MeetOnly es a b c d = (v : ℕ) → 0 < dir es a v → 0 < dir es b v → (v ≡ c) ⊎ (v ≡ d)

-- the vertices to which an edge runs from this one have the mark, the others that which they had
pub record AreNeighboursMarked (es : List (ℕ × ℕ)) (vertex : ℕ) (mark : Bool) (old new : List Bool) : Type 0 where
  pub count : length new ≡ length old
  pub each : (v : ℕ) → v < length old → get_or new v false ≡ cond (nat_lt 0 (dir es vertex v)) mark (get_or old v false)
