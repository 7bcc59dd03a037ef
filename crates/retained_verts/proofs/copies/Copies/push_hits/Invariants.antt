use Rattle.std.proofs.Common.{◌≡◌, ◌++◌, map, take}
use Rattle.std.specs.List.{flat_map}
use Rattle.side_terms.specs.Prescribed.{copies_of, hit_number_of, prescribed_hits}
use Rattle.retained_verts.specs.Parts.{edge_origin}
use Rattle.retained_verts.proofs.copies.Copies.push_hits.Given as goal

abbrev pub invariant-loop-hit : goal.invariant-loop-hit
invariant-loop-hit l = record {
  origins : l.self.origins.items ≡ l.fn.self.origins.items
      ++ map (λ c. c.origin) (flat_map copies_of (prescribed_hits (edge_origin l.operand) (hit_number_of l.op) (take l.hit-index l.hits)));
  points : l.self.points.items ≡ l.fn.self.points.items
      ++ map (λ c. c.point) (flat_map copies_of (prescribed_hits (edge_origin l.operand) (hit_number_of l.op) (take l.hit-index l.hits)));
}
