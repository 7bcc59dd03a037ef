use Rattle.edge_pairing.proofs.Spreading.{IsSpreadSoFar}
use Rattle.edge_pairing.proofs.spread.spread_on.Given as goal

abbrev pub invariant-loop-entry : goal.invariant-loop-entry
invariant-loop-entry l = IsSpreadSoFar l.axis l.points l.entries l.initial.low l.entry-index l.low l.high
