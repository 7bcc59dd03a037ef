use Rattle.std.proofs.Common.{take}
use Rattle.mesh_boolean.proofs.Marks.{AreMarkedIn}
use Rattle.mesh_boolean.proofs.auditing.origins.marked.Given as goal

abbrev pub invariant-loop-number : goal.invariant-loop-number
invariant-loop-number l = AreMarkedIn l.seen.items l.count (take l.number-index l.numbers)
