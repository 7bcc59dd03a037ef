use Rattle.std.proofs.Common.{◌≡◌, ◌≤◌, drop, get_or, length, []}
use Rattle.hole_joining.specs.Seen.{plane_at, clear_of, bridges_from}
use Rattle.hole_joining.specs.Passes.{best_of, passes}
use Rattle.hole_joining.specs.Runs.{AreRuns}
use Rattle.hole_joining.proofs.joining.Joining.best_in.Given as goal

abbrev pub invariant-loop-run : goal.invariant-loop-run
invariant-loop-run l = record {
  value : best_of (passes (clear_of l.self) l.asks l.refused) l.best (bridges_from l.self l.ring l.place) ≡
      best_of (passes (clear_of l.self) l.asks l.refused) l.fn.best (bridges_from l.self l.ring 0);
  within : l.place ≤ length (get_or l.self.rings.now l.ring []);
  are : AreRuns (plane_at l.self.flat) (drop l.run-index (get_or l.self.runs.now l.ring [])) (drop l.place (get_or l.self.rings.now l.ring []));
}
