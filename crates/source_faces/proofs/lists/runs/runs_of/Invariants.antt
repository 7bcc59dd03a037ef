use Rattle.std.proofs.Common.{◌≡◌, ◌+◌, map, take}
use Rattle.side_terms.specs.Prescribed.{vertex_count}
use Rattle.retained_verts.specs.Parts.{vertex_number}
use Rattle.source_faces.specs.Runs.{runs_from}
use Rattle.source_faces.proofs.lists.runs.runs_of.Given as goal

abbrev pub invariant-loop-winding : goal.invariant-loop-winding
invariant-loop-winding l = record {
  runs : l.runs.items ≡ runs_from l.fn.first (map (vertex_number l.op l.operand) (take l.winding-index l.windings));
  first : l.first ≡ l.fn.first + vertex_count (vertex_number l.op l.operand) (take l.winding-index l.windings);
}
