use Rattle.plane_chains.proofs.MarkLists.{HasNone}
use Rattle.plane_chains.proofs.telling.has_key.Given as goal

abbrev pub invariant-loop-to : goal.invariant-loop-to
invariant-loop-to l = HasNone l.edges.keys l.rim l.to-index l.from
