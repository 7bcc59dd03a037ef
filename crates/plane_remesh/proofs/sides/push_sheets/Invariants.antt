use Rattle.std.proofs.Common.{take}
use Rattle.plane_remesh.proofs.Sheeting.{AreSheetsTo}
use Rattle.plane_remesh.proofs.sides.push_sheets.Given as goal

-- those so far are pushed, and nothing waits
abbrev pub invariant-loop-each : goal.invariant-loop-each
invariant-loop-each l = AreSheetsTo l.work l.view l.first l.initial.regions l.regions (take l.each-index l.each-items)
