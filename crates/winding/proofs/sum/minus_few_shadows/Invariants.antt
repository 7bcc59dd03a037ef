use Rattle.std.proofs.Common.{◌≡◌, ◌<◌, ◌≤◌, ◌+◌, pos, neg_ℤ, ◌+ℤ◌, ◌-ℤ◌, ◌≤ℤ◌, length}
use Rattle.std.specs.List.{All}
use Rattle.chain_terms.specs.Sums.{total}
use Rattle.side_terms.specs.Sides.{face_at}
use Rattle.winding.specs.Windings.{minus_shadows}
use Rattle.winding.proofs.sum.minus_few_shadows.Given as goal

abbrev pub invariant-loop-face : goal.invariant-loop-face
invariant-loop-face g l = record {
  value : (l.winding -ℤ total (λ f. g.S.VertexFace.vertex_shadow l.shadows l.vertex (face_at l.faces f)) l.face-iterator)
      ≡ minus_shadows (g.S.VertexFace.vertex_shadow l.shadows l.vertex) l.faces;
  below : All (λ f. f < length l.faces.triples) l.face-iterator;
  low : neg_ℤ (pos (length l.faces.triples)) ≤ℤ (l.winding -ℤ pos (length l.face-iterator));
  high : (l.winding +ℤ pos (length l.face-iterator)) ≤ℤ pos (length l.faces.triples);
  left : l.most + length l.face-iterator ≤ l.left + length l.faces.triples;
}
