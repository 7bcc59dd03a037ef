use Rattle.std.proofs.Common.{take}
use Rattle.plane_remesh.proofs.Sheeting.{AreKeptTo}
use Rattle.plane_remesh.proofs.sides.push_kept.Given as goal

-- those so far are pushed, and nothing waits
abbrev pub invariant-loop-i : goal.invariant-loop-i
invariant-loop-i l = AreKeptTo l.work l.view l.first l.front l.initial.regions l.regions (take l.i-index l.i-items)
