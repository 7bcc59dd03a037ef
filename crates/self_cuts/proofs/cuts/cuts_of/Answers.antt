use Rattle.std.proofs.Common.{◌≡◌, ℕ, arith, ap, length, ◌∙◌}
use Rattle.std.specs.Prelude.{count_by}
use Rattle.inspection_terms.specs.Inspected.{pairs_below}
use Rattle.inspection_terms.specs.Triangles.{corners_at}
use Rattle.inspection_laws.specs.Signs.{are_cutting}
use Rattle.inspection_laws.proofs.Counting.{count-up_from}
use Rattle.inspection_laws.proofs.Near.{cut_count, cuts_more}
use Rattle.self_cuts.proofs.cuts.cuts_of.Goals as goal

pub overflow_add-count : goal.overflow_add-count
overflow_add-count c =
    let few = c.loop-t.invariant.few in
    let value = c.in_ok-more.ensures.value in
    let most = count-up_from (λ s. are_cutting (corners_at c.args.mesh.now s) (corners_at c.args.mesh.now c.loop-t.t)) 0 c.loop-t.t in
    omega (arith, few, value, most, c.triangles-t-end.ensures.few, c.loop-t-test.true)

pub loop-t-preserved : goal.loop-t-preserved
loop-t-preserved c =
    let few = c.loop-t.invariant.few in
    let value = c.in_ok-more.ensures.value in
    let most = count-up_from (λ s. are_cutting (corners_at c.args.mesh.now s) (corners_at c.args.mesh.now c.loop-t.t)) 0 c.loop-t.t in
    record {
      value = cuts_more c.args.mesh.now c.loop-t.t c.loop-t.count c.in_ok-more.more c.loop-t.invariant.value value;
      few = omega (arith, few, value, most, c.triangles-t-end.ensures.few, c.loop-t-test.true);
      near = c.in_ok-more.ensures.near;
    }

pub returns : goal.returns
returns c =
    let end : c.loop-t.t ≡ length c.args.mesh.now.triples = omega (arith, c.loop-t-test.false, c.loop-t.auto.t-end, c.triangles-t-end.ensures.value) in
    let test = λ (e : ℕ × ℕ). are_cutting (corners_at c.args.mesh.now e.0) (corners_at c.args.mesh.now e.1) in
    cut_count c.args.mesh.now c.loop-t.count (c.loop-t.invariant.value ∙ ap (λ n. count_by test (pairs_below n)) end)
