use Rattle.std.proofs.Common.{◌≡◌, length, take}
use Rattle.hole_joining.proofs.circle.rings_of_circles.Given as goal

abbrev pub invariant-loop-circle : goal.invariant-loop-circle
invariant-loop-circle l = l.rings.items ≡ take (length l.yielded) l.fn.circles.items
