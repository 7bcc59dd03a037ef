use Rattle.std.proofs.Common.{◌≡◌, ℕ, length, get_or, []}
use Rattle.hole_joining.specs.Seen.{plane_at}
use Rattle.hole_joining.specs.Runs.{AreRuns}
use Rattle.hole_joining.proofs.runs.runs_of.Given as goal

abbrev pub invariant-loop-ring : goal.invariant-loop-ring
invariant-loop-ring l = record {
  count : length l.runs.items ≡ l.ring-index;
  each : (i : ℕ) → AreRuns (plane_at l.flat) (get_or l.runs.items i []) (get_or l.rings i []);
}
