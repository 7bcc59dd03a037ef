use Rattle.std.proofs.Common.{◌≡◌, drop}
use Rattle.std.specs.Prelude.{None}
use Rattle.hole_joining.specs.Seen.{plane_at, start_of, clear_of, bridges_of}
use Rattle.hole_joining.specs.Bridges.{all_bridges}
use Rattle.hole_joining.specs.Passes.{best_of, passes}
use Rattle.hole_joining.proofs.joining.Joining.best.Given as goal

abbrev pub invariant-loop-ring : goal.invariant-loop-ring
invariant-loop-ring l =
    best_of (passes (clear_of l.self) l.asks l.refused) l.best
    (all_bridges (plane_at l.self.flat) (start_of l.self) l.ring (drop l.ring l.self.rings.now)) ≡
    best_of (passes (clear_of l.self) l.asks l.refused) None (bridges_of l.self)
