use Rattle.std.proofs.Common.{◌≡◌}
use Rattle.hole_joining.specs.Holes.{turned_to}
use Rattle.hole_joining.proofs.circle.turn_on.Given as goal

abbrev pub invariant-loop : goal.invariant-loop
invariant-loop l = l.circle ≡ turned_to l.counter l.initial.circle
