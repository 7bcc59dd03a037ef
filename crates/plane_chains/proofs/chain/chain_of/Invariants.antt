use Rattle.plane_chains.proofs.WayLists.{IsChained}
use Rattle.plane_chains.proofs.chain.chain_of.Given as goal

abbrev pub invariant-loop-number : goal.invariant-loop-number
invariant-loop-number l = IsChained l.ways l.edges l.number l.chain.edges.items l.chain.nets
