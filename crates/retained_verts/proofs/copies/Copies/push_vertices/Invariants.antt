use Rattle.std.proofs.Common.{◌≡◌, ◌++◌, map}
use Rattle.std.specs.List.{flat_map}
use Rattle.side_terms.specs.Points.{points_of}
use Rattle.side_terms.specs.Prescribed.{copies_of, prescribed_vertices}
use Rattle.retained_verts.specs.Parts.{vertex_number, vertex_origin}
use Rattle.retained_verts.proofs.copies.Copies.push_vertices.Given as goal

abbrev pub invariant-loop-vertex : goal.invariant-loop-vertex
invariant-loop-vertex l = record {
  origins : l.self.origins.items ≡ l.fn.self.origins.items
      ++ map (λ c. c.origin) (flat_map copies_of (prescribed_vertices (vertex_origin l.operand) (vertex_number l.op l.operand) l.windings (points_of l.corners) l.vertex));
  points : l.self.points.items ≡ l.fn.self.points.items
      ++ map (λ c. c.point) (flat_map copies_of (prescribed_vertices (vertex_origin l.operand) (vertex_number l.op l.operand) l.windings (points_of l.corners) l.vertex));
}
