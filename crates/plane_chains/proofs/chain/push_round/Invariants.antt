use Rattle.plane_chains.proofs.WayLists.{IsOnRound}
use Rattle.plane_chains.proofs.chain.push_round.Given as goal

abbrev pub invariant-loop-to : goal.invariant-loop-to
invariant-loop-to l = IsOnRound l.initial.ways.items l.rim l.label l.to-index l.from l.ways.items
