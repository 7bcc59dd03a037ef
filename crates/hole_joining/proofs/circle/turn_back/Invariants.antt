use Rattle.std.proofs.Common.{◌≡◌, ◌-◌, length}
use Rattle.hole_joining.specs.Holes.{turned_to}
use Rattle.hole_joining.proofs.circle.turn_back.Given as goal

abbrev pub invariant-loop : goal.invariant-loop
invariant-loop l = l.circle ≡ turned_to (length l.initial.circle - l.counter) l.initial.circle
