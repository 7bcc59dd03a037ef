use Rattle.plane_chains.proofs.MarkLists.{AreCrossed}
use Rattle.plane_chains.proofs.telling.crossed_edges.Given as goal

abbrev pub invariant-loop-pair : goal.invariant-loop-pair
invariant-loop-pair l = AreCrossed l.edges l.pairs l.pair-index l.crossed.keys
