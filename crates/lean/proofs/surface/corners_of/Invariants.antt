use Rattle.std.proofs.Common.{◌≡◌, length, take, map}
use Rattle.std.specs.List.{zip}
use Rattle.side_terms.specs.Corners.{AllFine}
use Rattle.side_terms.specs.Sides.{corner_of}
use Rattle.lean.proofs.surface.corners_of.Given as goal

abbrev pub invariant-loop-point : goal.invariant-loop-point
invariant-loop-point l = record {
  value : l.corners.items ≡ map (λ m. corner_of m.0 m.1) (take (length l.yielded) (zip l.points l.ups));
  fine : AllFine l.corners.items;
}
