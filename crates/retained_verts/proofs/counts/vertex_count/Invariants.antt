use Rattle.std.proofs.Common.{◌≡◌, ◌≤◌, ◌*◌, take}
use Rattle.side_terms.specs.Prescribed.{vertex_count}
use Rattle.retained_verts.specs.Parts.{vertex_number}
use Rattle.retained_verts.proofs.counts.vertex_count.Given as goal

abbrev pub invariant-loop-winding : goal.invariant-loop-winding
invariant-loop-winding l = record {
  value : l.count ≡ vertex_count (vertex_number l.op l.operand) (take l.winding-index l.windings);
  small : l.count ≤ 100000001 * l.winding-index;
}
