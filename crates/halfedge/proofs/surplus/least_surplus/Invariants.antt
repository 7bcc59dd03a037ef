use Rattle.std.proofs.Common.{◌+◌, length}
use Rattle.halfedge.specs.Pairing.{ends_of}
use Rattle.halfedge.proofs.Walk.{AreRead}
use Rattle.halfedge.proofs.surplus.least_surplus.Given as goal

abbrev pub invariant-loop-edge : goal.invariant-loop-edge
invariant-loop-edge l = AreRead (ends_of l.edges) (ends_of l.others) (ends_of l.left) (ends_of l.right)

abbrev pub decreases-loop-edge : goal.decreases-loop-edge
decreases-loop-edge l = length l.left + length l.right
