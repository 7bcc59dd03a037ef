use Rattle.std.proofs.Common.{◌≡◌, ◌<◌, ◌*◌, pos, neg_ℤ, ◌+ℤ◌, ◌-ℤ◌, ◌≤ℤ◌, length}
use Rattle.std.specs.List.{All}
use Rattle.chain_terms.specs.Sums.{total}
use Rattle.edge_face.specs.Crossings.{number_of}
use Rattle.side_terms.specs.Sides.{face_at}
use Rattle.winding.specs.Segments.{segment_total}
use Rattle.winding.proofs.segments.crossings_between.Given as goal

abbrev pub invariant-loop-face : goal.invariant-loop-face
invariant-loop-face g l = record {
  value : (l.sum +ℤ total (λ f. number_of (g.C.EdgeFace.crossing_of l.pairs l.segment (face_at l.faces f))) l.face-iterator)
      ≡ segment_total (g.C.EdgeFace.crossing_of l.pairs) l.segment l.faces;
  below : All (λ f. f < length l.faces.triples) l.face-iterator;
  low : neg_ℤ (pos (128 * length l.faces.triples)) ≤ℤ (l.sum -ℤ pos (128 * length l.face-iterator));
  high : (l.sum +ℤ pos (128 * length l.face-iterator)) ≤ℤ pos (128 * length l.faces.triples);
}
