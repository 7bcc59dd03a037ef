use Rattle.std.proofs.Common.{◌+◌, ◌-◌, length}
use Rattle.ring_cutting.proofs.hulls.+seek.Given as goal

abbrev pub decreases-seek : goal.decreases-seek
decreases-seek l = length l.places.now + length l.places.now - l.node
