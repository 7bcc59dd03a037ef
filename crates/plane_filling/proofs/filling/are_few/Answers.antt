use Rattle.std.proofs.Common.{[], length, arith, ap, ◌∙◌}
use Rattle.std.proofs.lemmas.List.{get_or_default}
use Rattle.hole_joining.proofs.Lists.{length_more}
use Rattle.plane_filling.proofs.filling.are_few.Goals as goal

pub loop-each-preserved : goal.loop-each-preserved
loop-each-preserved c =
    let loops = c.args.loops.now in
    let i = c.loop-each.each-index in
    let item = c.vertices-more.ensures ∙ c.each-item.is ∙ get_or_default loops i c.each-item.result [] c.loop-each-test.true in
    let count = c.loop-each.invariant.count in
    let most = c.loop-each.invariant.most in
    record {
      count = omega (arith, count, length_more loops i c.loop-each-test.true, ap length item);
      most = omega (arith, most, c.if-more-count.false);
    }
