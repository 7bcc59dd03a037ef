use Rattle.std.proofs.Common.{◌≡◌, ◌*◌, take, pos, neg_ℤ, ◌≤ℤ◌}
use Rattle.chain_terms.specs.Sums.{total}
use Rattle.winding.proofs.along.edge_total.Given as goal

abbrev pub invariant-loop-hit : goal.invariant-loop-hit
invariant-loop-hit l = record {
  value : l.sum ≡ total (λ h. h.number) (take l.hit-index l.hit-items);
  low : neg_ℤ (pos (128 * l.hit-index)) ≤ℤ l.sum;
  high : l.sum ≤ℤ pos (128 * l.hit-index);
}
