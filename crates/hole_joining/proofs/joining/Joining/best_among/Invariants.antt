use Rattle.std.proofs.Common.{◌≡◌}
use Rattle.hole_joining.specs.Seen.{clear_of, bridges_from}
use Rattle.hole_joining.specs.Passes.{best_of, passes}
use Rattle.hole_joining.proofs.joining.Joining.best_among.Given as goal

abbrev pub invariant-loop-place : goal.invariant-loop-place
invariant-loop-place l =
    best_of (passes (clear_of l.self) l.asks l.refused) l.best (bridges_from l.self l.ring l.place) ≡
    best_of (passes (clear_of l.self) l.asks l.refused) l.fn.best (bridges_from l.self l.ring l.from)
