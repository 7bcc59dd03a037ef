use Rattle.std.proofs.Common.{◌≡◌, take}
use Rattle.hole_joining.proofs.circle.circles_of.Given as goal

abbrev pub invariant-loop-ring : goal.invariant-loop-ring
invariant-loop-ring l = l.circles.items ≡ take l.ring-index l.rings
