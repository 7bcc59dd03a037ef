use Rattle.std.proofs.Common.{◌≡◌, ◌<◌, pos, neg_ℤ, ◌+ℤ◌, ◌-ℤ◌, ◌≤ℤ◌, length}
use Rattle.std.specs.List.{All}
use Rattle.chain_terms.specs.Sums.{total}
use Rattle.outline_pair_terms.specs.Numbers.{edge_at, ends_of}
use Rattle.cross_section.proofs.numbers.sums.change_along.Given as goal

abbrev pub invariant-loop-number : goal.invariant-loop-number
invariant-loop-number g l = record {
  value : (l.sum +ℤ total (λ k. g.T.EdgeTests.change_of l.tests l.way (ends_of l.edges (edge_at l.edges k))) l.number-iterator)
      ≡ total (λ e. g.T.EdgeTests.change_of l.tests l.way (ends_of l.edges e)) l.edges.edges;
  below : All (λ k. k < length l.edges.edges) l.number-iterator;
  low : neg_ℤ (pos (length l.edges.edges)) ≤ℤ (l.sum -ℤ pos (length l.number-iterator));
  high : (l.sum +ℤ pos (length l.number-iterator)) ≤ℤ pos (length l.edges.edges);
}
