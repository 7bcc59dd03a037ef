use Rattle.std.proofs.Common.{◌≡◌, ◌≤◌, ◌+◌, ℤ, get_or, nat_abs, replicate, subst, sym, ap, ◌∙◌, to_z, of_z, w64, arith}
use Rattle.outline_pair_terms.specs.declared.FlatHit.{FlatHit}
use Rattle.cross_section.specs.Copies.{by_sign, hit_number}
use Rattle.cross_section.proofs.Joined.{grown_by}
use Rattle.cross_section.proofs.Kept.{kept_64, kept_8}
use Rattle.cross_section.proofs.copies.push_hits.Goals as goal

pub loop-hit-preserved : goal.loop-hit-preserved
loop-hit-preserved c =
    let hs = c.args.hits.now in
    let op = c.args.op in
    let first = c.args.first in
    let i = c.loop-hit.hit-index in
    let h : FlatHit = c.hit-item.result in
    let same : h ≡ get_or hs i h = c.hit-item.is in
    let number : FlatHit → ℤ = λ k. hit_number op k.number in
    let small : nat_abs h.number ≤ 1 = subst (λ (k : FlatHit). nat_abs k.number ≤ 1) (sym same) (c.requires.small i h c.loop-hit-test.true) in
    let result = c.hit_number-number.ensures in
    let z = to_z w64 (of_z w64 c.hit_number-number.result) in
    let is : z ≡ number (get_or hs i h) = kept_64 c.hit_number-number.result (omega (arith, result.small))
    ∙ result.value ∙ ap (hit_number op) (kept_8 h.number small) ∙ ap number same in
    let old = c.args.copies.now in
    let now = c.loop-hit.copies in
    let new = c.push_copies.new.copies in
    let added = c.in_ok-push_copies.ensures in
    record {
      points = grown_by (λ k. replicate (nat_abs (number k)) k.at) hs i h old.points.items now.points.items new.points.items
          _ c.loop-hit-test.true added.points c.loop-hit.invariant.points (λ j. replicate (nat_abs (is j)) (same j).at);
      starts = grown_by (λ k. replicate (nat_abs (number k)) (by_sign (number k) k.p_edge (first + k.q_edge)))
          hs i h old.starts.items now.starts.items new.starts.items _ c.loop-hit-test.true added.starts
          c.loop-hit.invariant.starts (λ j. replicate (nat_abs (is j)) (by_sign (is j) (same j).p_edge (first + (same j).q_edge)));
      ends = grown_by (λ k. replicate (nat_abs (number k)) (by_sign (number k) (first + k.q_edge) k.p_edge))
          hs i h old.ends.items now.ends.items new.ends.items _ c.loop-hit-test.true added.ends
          c.loop-hit.invariant.ends (λ j. replicate (nat_abs (is j)) (by_sign (is j) (first + (same j).q_edge) (same j).p_edge));
    }
