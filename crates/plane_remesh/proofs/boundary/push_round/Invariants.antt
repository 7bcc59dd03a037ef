use Rattle.plane_remesh.proofs.Rising.{IsOnRound}
use Rattle.plane_remesh.proofs.boundary.push_round.Given as goal

-- the edges so far
abbrev pub invariant-loop-to : goal.invariant-loop-to
invariant-loop-to l = IsOnRound l.turned l.initial.out.items l.places l.to-index l.from l.out.items
