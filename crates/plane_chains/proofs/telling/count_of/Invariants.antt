use Rattle.std.proofs.Common.{◌≡◌, ◌≤◌, length}
use Rattle.plane_chains.specs.Ways.{marked}
use Rattle.plane_chains.proofs.telling.count_of.Given as goal

-- the marks that are set so far
abbrev pub invariant-loop-mark : goal.invariant-loop-mark
invariant-loop-mark l = (l.count ≡ length (marked l.marks l.mark-index)) × (l.count ≤ l.mark-index)
