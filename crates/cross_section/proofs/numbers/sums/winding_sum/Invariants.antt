use Rattle.std.proofs.Common.{◌≡◌, pos, neg_ℤ, ◌≤ℤ◌}
use Rattle.chain_terms.specs.Sums.{total, upto}
use Rattle.outline_pair_terms.specs.Numbers.{edge_at, ends_of}
use Rattle.cross_section.proofs.numbers.sums.winding_sum.Given as goal

abbrev pub invariant-loop-number : goal.invariant-loop-number
invariant-loop-number g l = record {
  value : l.sum ≡ total (λ k. g.T.EdgeTests.part_of l.tests l.vertex (ends_of l.edges (edge_at l.edges k))) (upto l.number);
  low : neg_ℤ (pos l.number) ≤ℤ l.sum;
  high : l.sum ≤ℤ pos l.number;
}
