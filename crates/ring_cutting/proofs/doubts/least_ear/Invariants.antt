use Rattle.std.specs.BTreeSet.{btree_set_len}
use Rattle.ring_cutting.specs.Left.{AreSettled}
use Rattle.ring_cutting.proofs.doubts.least_ear.Given as goal

-- what is in doubt no more has a reason
abbrev pub invariant-loop-i : goal.invariant-loop-i
invariant-loop-i l = AreSettled l.places l.links.after.items l.links.before.items l.links.living.items l.doubts.doubtful l.doubts.waiting.items

abbrev pub decreases-loop-i : goal.decreases-loop-i
decreases-loop-i l = btree_set_len l.doubts.doubtful
