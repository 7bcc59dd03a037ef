use Rattle.std.proofs.Common.{◌≡◌, ◌≤◌, ◌*◌, take}
use Rattle.side_terms.specs.Prescribed.{vertex_halfedges}
use Rattle.mesh_terms.specs.Meshes.{triples_of}
use Rattle.retained_verts.specs.Parts.{vertex_number}
use Rattle.retained_verts.proofs.counts.halfedges.Given as goal

abbrev pub invariant-loop-a : goal.invariant-loop-a
invariant-loop-a l = record {
  value : l.halfedges ≡ vertex_halfedges (vertex_number l.op l.operand) l.windings (triples_of (take l.a-index l.triples));
  small : l.halfedges ≤ 300000003 * l.a-index;
}
