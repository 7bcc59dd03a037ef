use Rattle.std.proofs.Common.{◌∙◌}
use Rattle.hole_joining.specs.Seen.{plane_at, start_of, clear_of}
use Rattle.hole_joining.specs.Passes.{passes}
use Rattle.hole_joining.proofs.Choice.{best_of_ring}
use Rattle.hole_joining.proofs.joining.Joining.best.Goals as goal

pub loop-ring-preserved : goal.loop-ring-preserved
loop-ring-preserved c =
    let j = c.args.self.now in
    best_of_ring (plane_at j.flat) (start_of j) c.loop-ring.ring (passes (clear_of j) c.args.asks c.args.refused) c.loop-ring.best
    c.best_in-best.result j.rings.now c.loop-ring-test.true c.best_in-best.ensures ∙ c.loop-ring.invariant
