use Rattle.std.proofs.Common.{ℕ, ◌≤◌, ◌<◌}
use Rattle.std.specs.List.{All}
use Rattle.side_terms.specs.Sides.{face_at}
use Rattle.crossings.specs.Runs.{IsRound}
use Rattle.crossings.proofs.runs.box_round.Given as goal

abbrev pub invariant-loop-face : goal.invariant-loop-face
invariant-loop-face l = (f : ℕ) → l.fn.from ≤ f → f < l.face → All (IsRound l.area) (face_at l.side f)
