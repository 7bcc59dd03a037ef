use Rattle.std.proofs.Common.{◌≡◌, ◌≤◌, ◌*◌, ℕ, get_or, length}
use Rattle.std.specs.Prelude.{count_by}
use Rattle.inspection_terms.specs.Inspected.{is_touching, pairs_below}
use Rattle.self_cuts.proofs.touching.touching_of.Given as goal

-- the edges with a greater end so far
abbrev pub invariant-loop-v : goal.invariant-loop-v
invariant-loop-v l = record {
  value : l.count ≡ count_by (is_touching l.mesh) (pairs_below l.v);
  few : l.count ≤ 150000000 * l.v;
  full : length l.uses ≡ length l.mesh.points;
  none : (s : ℕ) → get_or l.uses s 0 ≡ 0;
}
