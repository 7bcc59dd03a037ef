-- Winding numbers and hits of two outlines agree along the edges.
use Rattle.std.specs.Prelude.{◌≡◌, ℕ, ◌<◌, ◌==◌, pos, ◌+ℤ◌, ◌-ℤ◌, List, cond, get_or, length}
use Rattle.chain_terms.specs.Ranks.{start, finish}
use Rattle.chain_terms.specs.Sums.{total}
use Rattle.outline_pair_terms.specs.Numbers.{FlatNumbers}

-- along each edge of P its vertices' winding numbers in Q change by the numbers of the edge's hits, and along each edge of Q those in P by
-- minus the numbers
pub record AreConserved (p q : List (ℕ × ℕ)) (n : FlatNumbers) : Type 0 where
  pub p_edges : (k : ℕ) → k < length p → get_or n.w02 (finish p k) (pos 0) ≡ get_or n.w02 (start p k) (pos 0) +ℤ total (λ h. cond (h.p_edge == k) h.number (pos 0)) n.hits
  pub q_edges : (k : ℕ) → k < length q → get_or n.w20 (finish q k) (pos 0) ≡ get_or n.w20 (start q k) (pos 0) -ℤ total (λ h. cond (h.q_edge == k) h.number (pos 0)) n.hits
