-- Lists that are compared with the one that numbers prescribe.
use Rattle.std.proofs.Common.{◌≡◌, length, sym, ap, ◌∙◌, arith}
use Rattle.std.specs.Prelude.{slice_index}
use Rattle.std.proofs.lemmas.List.{length-map}
use Rattle.mb_base.specs.declared.op.Op.{Op}
use Rattle.side_terms.specs.Sides.{Side}
use Rattle.side_terms.specs.Prescribed.{Numbers, prescribed}
use Rattle.retained_verts.specs.Counted.{AreCounts, HasCounts}
use Rattle.retained_verts.specs.Listed.{ArePrescribed}
use Rattle.retained_verts.specs.declared.counts.Counts.{Counts}
use Rattle.retained_verts.specs.declared.list.Prescribed.{Prescribed}
use Rattle.retained_verts.proofs.Lengths.{all_copies_counted}

-- the prescribed vertices have the counts of the numbers, and are as many
pub have_counts : (op : Op) (p q : Side) (n : Numbers) (r : Prescribed) (c : Counts) → length n.w03 ≡ length p.corners → length n.w30 ≡ length q.corners →
    AreCounts op p q n c → ArePrescribed op p q n r → HasCounts r c
have_counts op p q n r c p_long q_long counts is = record {
  kept = is.kept ∙ sym counts.kept;
  crossings = is.crossings ∙ sym counts.crossings;
  halfedges = is.halfedges ∙ sym counts.halfedges;
  all = omega (
    arith,
    ap length is.origins,
    length-map (prescribed op p q n) (λ k. k.origin),
    all_copies_counted op p q n p_long q_long,
    ap (λ k. slice_index k 0) counts.kept,
    ap (λ k. slice_index k 1) counts.kept,
    counts.crossings,
  );
}

-- lists with these counts, with the origins and the points of the prescribed vertices, are these
pub are_those : (op : Op) (p q : Side) (n : Numbers) (r e : Prescribed) (c : Counts) → AreCounts op p q n c → HasCounts r c → ArePrescribed op p q n e →
    r.origins.items ≡ e.origins.items → r.points.items ≡ e.points.items → ArePrescribed op p q n r
are_those op p q n r e c counts has is origins points = record {
  origins = origins ∙ is.origins;
  points = points ∙ is.points;
  kept = has.kept ∙ counts.kept;
  crossings = has.crossings ∙ counts.crossings;
  halfedges = has.halfedges ∙ counts.halfedges;
}
