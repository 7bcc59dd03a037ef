use Rattle.std.proofs.Common.{ap, ◌∙◌, arith}
use Rattle.loop_ring.proofs.Reading.{turned_more}
use Rattle.hole_joining.specs.Holes.{turned_to}
use Rattle.hole_joining.proofs.circle.turn_on.Goals as goal

pub loop-preserved : goal.loop-preserved
loop-preserved c =
    let all = c.requires in let less = c.loop-test.true in
    c.step.ensures ∙ ap (turned_to 1) c.loop.invariant ∙ turned_more c.loop.counter c.args.circle.now (omega arith)
