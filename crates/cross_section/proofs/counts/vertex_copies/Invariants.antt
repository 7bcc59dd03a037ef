use Rattle.std.proofs.Common.{◌≡◌, ◌≤◌, ◌*◌, take}
use Rattle.std.specs.Prelude.{nat_abs}
use Rattle.std.specs.List.{sum_by}
use Rattle.cross_section.specs.Copies.{vertex_number}
use Rattle.cross_section.proofs.counts.vertex_copies.Given as goal

abbrev pub invariant-loop-winding : goal.invariant-loop-winding
invariant-loop-winding l
    = record { value : l.sum ≡ sum_by (λ w. nat_abs (vertex_number l.op l.operand w)) (take l.winding-index l.windings); size : l.sum ≤ 1000001 * l.winding-index }
