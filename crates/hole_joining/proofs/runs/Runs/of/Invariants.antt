use Rattle.std.proofs.Common.{◌≡◌, ◌*◌}
use Rattle.hole_joining.specs.Seen.{plane_at}
use Rattle.hole_joining.specs.Runs.{AreRuns}
use Rattle.hole_joining.proofs.Following.{counted}
use Rattle.hole_joining.proofs.runs.Runs.of.Given as goal

abbrev pub invariant-loop-k : goal.invariant-loop-k
invariant-loop-k l = record {
  are : AreRuns (plane_at l.flat) l.runs.items l.ring;
  counted : counted l.runs.items ≡ l.k * 64;
}
