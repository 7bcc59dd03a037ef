use Rattle.std.proofs.Common.{◌<◌, length}
use Rattle.std.specs.List.{All}
use Rattle.face_loops.specs.Trails.{left}
use Rattle.face_loops.proofs.Trailing.{IsOnTrail}
use Rattle.plane_sheets.specs.Rounds.{steps_of}
use Rattle.plane_sheets.proofs.rounds.round_from.Given as goal

abbrev pub invariant-trail : goal.invariant-trail
invariant-trail l = record {
  on : IsOnTrail (steps_of l.next) l.first l.fn.used l.used l.at l.round.items;
  below : All (λ i. i < length l.next) l.round.items;
}

abbrev pub decreases-trail : goal.decreases-trail
decreases-trail l = length (left (steps_of l.next) l.used)
