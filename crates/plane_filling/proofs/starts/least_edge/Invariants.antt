use Rattle.chain_terms.specs.Paths.{round_edges}
use Rattle.plane_filling.proofs.Edges.{IsLeastOf}
use Rattle.plane_filling.proofs.starts.least_edge.Given as goal

-- the least edge so far
abbrev pub invariant-loop-i : goal.invariant-loop-i
invariant-loop-i l = IsLeastOf (round_edges l.walk) l.i l.least
