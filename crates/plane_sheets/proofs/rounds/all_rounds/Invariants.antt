use Rattle.std.proofs.Common.{◌<◌, length}
use Rattle.std.specs.List.{All}
use Rattle.face_loops.proofs.Rounds.{AreLoopsSoFar}
use Rattle.plane_sheets.specs.Rounds.{steps_of}
use Rattle.plane_sheets.proofs.rounds.all_rounds.Given as goal

abbrev pub invariant-loop-first : goal.invariant-loop-first
invariant-loop-first l = record {
  so : AreLoopsSoFar (steps_of l.next) l.first l.used l.all.items;
  below : All (λ r. All (λ i. i < length l.next) r) l.all.items;
}
