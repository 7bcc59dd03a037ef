use Rattle.std.proofs.Common.{◌≡◌, ◌+◌, ◌++◌, take}
use Rattle.outline_pair_terms.specs.declared.FlatHit.{FlatHit}
use Rattle.cross_section.specs.Copies.{by_sign, hit_number, repeated}
use Rattle.cross_section.proofs.copies.push_hits.Given as goal

abbrev pub invariant-loop-hit : goal.invariant-loop-hit
invariant-loop-hit l =
    record {
      points : l.copies.points.items ≡ l.fn.copies.points.items ++ repeated (λ (h : FlatHit). hit_number l.op h.number) (λ h. h.at) (take l.hit-index l.hits);
      starts : l.copies.starts.items ≡ l.fn.copies.starts.items ++ repeated (λ (h : FlatHit). hit_number l.op h.number)
          (λ h. by_sign (hit_number l.op h.number) h.p_edge (l.first + h.q_edge)) (take l.hit-index l.hits);
      ends : l.copies.ends.items ≡ l.fn.copies.ends.items ++ repeated (λ (h : FlatHit). hit_number l.op h.number)
          (λ h. by_sign (hit_number l.op h.number) (l.first + h.q_edge) h.p_edge) (take l.hit-index l.hits);
    }
