use Rattle.std.proofs.Common.{◌≡◌, ◌+◌, ℕ, ℤ, pos, [], get_or, nat_abs, replicate, ap, ◌∙◌, to_z, of_z, w64, arith}
use Rattle.std.proofs.lemmas.List.{get_or_default}
use Rattle.cross_section.specs.Copies.{by_sign, vertex_number}
use Rattle.cross_section.proofs.Joined.{grown}
use Rattle.cross_section.proofs.Kept.{kept_64}
use Rattle.cross_section.proofs.copies.push_vertices.Goals as goal

pub loop-v-preserved : goal.loop-v-preserved
loop-v-preserved c =
    let ws = c.args.windings.now in
    let ps = c.args.points.now in
    let op = c.args.op in
    let first = c.args.first in
    let leaving = c.args.places.now.leaving.items in
    let entering = c.args.places.now.entering.items in
    let v = c.loop-v.v in
    let low = c.loop-v-test.true in
    let number : ℕ → ℤ = λ u. vertex_number op c.args.operand (get_or ws u (pos 0)) in
    let winding = c.requires.fit.small v (pos 0) (omega (arith, low, c.requires.fit.windings)) in
    let z = to_z w64 (of_z w64 c.number-number.result) in
    let is : z ≡ number v =
    kept_64 c.number-number.result c.number-number.ensures.small ∙ c.number-number.ensures.value
    ∙ ap (vertex_number op c.args.operand) (kept_64 (get_or ws v (pos 0)) (omega (arith, winding))) in
    let at : c.index-points-v.result ≡ get_or ps v [] = c.index-points-v.is ∙ get_or_default ps v c.index-points-v.result [] low in
    let leaves : c.index.result.now ≡ get_or leaving v 0 = c.index.ensures ∙ get_or_default leaving v c.index.result.now 0 (omega (arith, low, c.requires.fit.starts)) in
    let enters : c.index-in-loop-v.result.now ≡ get_or entering v 0 = c.index-in-loop-v.ensures
    ∙ get_or_default entering v c.index-in-loop-v.result.now 0 (omega (arith, low, c.requires.fit.ends)) in
    let old = c.args.copies.now in
    let now = c.loop-v.copies in
    let new = c.push_copies.new.copies in
    let added = c.in_ok-push_copies.ensures in
    record {
      points = grown (λ u. replicate (nat_abs (number u)) (get_or ps u [])) v old.points.items now.points.items
          new.points.items _ added.points c.loop-v.invariant.points (λ i. replicate (nat_abs (is i)) (at i));
      starts = grown (λ u. replicate (nat_abs (number u)) (by_sign (number u) (first + get_or leaving u 0) (first + get_or entering u 0)))
          v old.starts.items now.starts.items new.starts.items _ added.starts
          c.loop-v.invariant.starts (λ i. replicate (nat_abs (is i)) (by_sign (is i) (first + leaves i) (first + enters i)));
      ends = grown (λ u. replicate (nat_abs (number u)) (by_sign (number u) (first + get_or entering u 0) (first + get_or leaving u 0)))
          v old.ends.items now.ends.items new.ends.items _ added.ends
          c.loop-v.invariant.ends (λ i. replicate (nat_abs (is i)) (by_sign (is i) (first + enters i) (first + leaves i)));
    }
