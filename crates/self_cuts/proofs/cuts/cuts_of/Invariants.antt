use Rattle.std.proofs.Common.{◌≡◌, ◌≤◌, ◌*◌}
use Rattle.std.specs.Prelude.{count_by}
use Rattle.inspection_terms.specs.Inspected.{pairs_below}
use Rattle.inspection_terms.specs.Triangles.{corners_at}
use Rattle.inspection_laws.specs.Signs.{are_cutting}
use Rattle.self_cuts.specs.Hands.{AreAtHand}
use Rattle.self_cuts.proofs.cuts.cuts_of.Given as goal

abbrev pub invariant-loop-t : goal.invariant-loop-t
invariant-loop-t l = record {
  value : l.count ≡ count_by (λ e. are_cutting (corners_at l.mesh e.0) (corners_at l.mesh e.1)) (pairs_below l.t);
  few : l.count ≤ 100000000 * l.t;
  near : AreAtHand l.mesh l.near.area l.near.end l.near.seen.items;
}
