use Rattle.std.proofs.Common.{◌≡◌, take, pos, neg_ℤ, ◌≤ℤ◌}
use Rattle.chain_terms.specs.Sums.{total}
use Rattle.mesh_terms.specs.Meshes.{triples_of}
use Rattle.side_terms.specs.Sides.{face_of}
use Rattle.winding.proofs.point.minus_all.Given as goal

abbrev pub invariant-loop-triple : goal.invariant-loop-triple
invariant-loop-triple g l = record {
  value : l.winding ≡ neg_ℤ (total (λ t. g.S.VertexFace.vertex_shadow l.shadows l.vertex (face_of l.corners t)) (take l.triple-index (triples_of l.triples)));
  low : neg_ℤ (pos l.triple-index) ≤ℤ l.winding;
  high : l.winding ≤ℤ pos l.triple-index;
}
