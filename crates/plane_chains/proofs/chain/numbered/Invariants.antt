use Rattle.plane_chains.proofs.WayLists.{IsNumbered}
use Rattle.plane_chains.proofs.chain.numbered.Given as goal

abbrev pub invariant-loop-way : goal.invariant-loop-way
invariant-loop-way l = IsNumbered l.ways l.way-index l.edges.keys l.edge_of.items
