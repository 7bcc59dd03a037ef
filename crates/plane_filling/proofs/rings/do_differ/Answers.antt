use Rattle.std.proofs.Common.{◌<◌, length, get_or, arith, ap, ◌∙◌}
use Rattle.loop_ring.specs.Turning.{turned_to}
use Rattle.loop_ring.proofs.Reading.{turned_more}
use Rattle.plane_filling.proofs.Walking.{differ_more, differ_whole, read_ahead, read_here}
use Rattle.plane_filling.proofs.rings.do_differ.Goals as goal

pub loop-preserved : goal.loop-preserved
loop-preserved c =
    let r = c.args.ring.now in
    let i = c.loop.counter in
    let same = c.loop.invariant.ring in
    let low : i < length r = omega (arith, c.loop-test.true, c.len-end.ensures.count, c.loop.auto.counter-end) in
    record {
      ring = c.step.ensures ∙ ap (turned_to 1) same ∙ turned_more i r low;
      apart = differ_more r i c.get-here.result c.ahead-next.result c.loop.apart low (c.get-here.ensures ∙ ap (λ l. get_or l 0 0) same ∙ read_here r i low)
          (c.ahead-next.ensures ∙ ap (λ l. get_or (turned_to 1 l) 0 0) same ∙ read_ahead r i low) c.loop.invariant.apart;
    }

pub returns-clause-value : goal.returns-clause-value
returns-clause-value c =
    differ_whole c.args.ring.now c.loop.counter c.loop.apart (omega (arith, c.loop-test.false, c.len-end.ensures.count, c.loop.auto.counter-end)) c.loop.invariant.apart
