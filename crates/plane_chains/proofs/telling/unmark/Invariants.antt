use Rattle.plane_chains.proofs.MarkLists.{IsUnmarked}
use Rattle.plane_chains.proofs.telling.unmark.Given as goal

abbrev pub invariant-loop-i : goal.invariant-loop-i
invariant-loop-i l = IsUnmarked l.rims.0 l.edges.keys l.initial.marks l.marks l.i
