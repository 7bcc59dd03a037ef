use Rattle.plane_remesh.proofs.Rising.{AreOnRounds}
use Rattle.plane_remesh.proofs.boundary.push_rounds.Given as goal

-- the lists so far
abbrev pub invariant-loop-i : goal.invariant-loop-i
invariant-loop-i l = AreOnRounds l.turned l.initial.out.items l.lists.0 l.first l.i l.out.items
