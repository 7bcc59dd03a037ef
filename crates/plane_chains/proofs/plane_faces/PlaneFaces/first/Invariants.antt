use Rattle.std.proofs.Common.{drop, find, ◌≡◌}
use Rattle.plane_chains.specs.Listed.{faces_side}
use Rattle.plane_chains.proofs.plane_faces.PlaneFaces.first.Given as goal

abbrev pub invariant-loop-number : goal.invariant-loop-number
invariant-loop-number l = find (faces_side l.self.fronts.now l.front) (drop l.number-index l.number-items) ≡ find (faces_side l.self.fronts.now l.front) l.number-items
