use Rattle.std.proofs.Common.{◌≡◌, take}
use Rattle.std.specs.List.{All}
use Rattle.hole_joining.specs.Seen.{plane_at}
use Rattle.hole_joining.specs.Runs.{IsRound}
use Rattle.hole_joining.proofs.runs.run_of.Given as goal

abbrev pub invariant-loop-vertex : goal.invariant-loop-vertex
invariant-loop-vertex l = record {
  count : l.run.count ≡ l.vertex-index;
  round : All (λ v. IsRound l.run (plane_at l.flat v)) (take l.vertex-index l.places);
}
