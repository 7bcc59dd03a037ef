use Rattle.std.proofs.Common.{◌≡◌, ◌≤◌}
use Rattle.std.specs.Prelude.{count_by}
use Rattle.chain_terms.specs.Sums.{upto}
use Rattle.inspection_terms.specs.Triangles.{corners_at, is_flat}
use Rattle.self_cuts.proofs.flats.flats.Given as goal

abbrev pub invariant-loop-t : goal.invariant-loop-t
invariant-loop-t l = record {
  value : l.count ≡ count_by (λ t. is_flat (corners_at l.mesh t)) (upto l.t);
  few : l.count ≤ l.t;
}
