use Rattle.std.proofs.Common.{◌≡◌}
use Rattle.chain_terms.specs.Sums.{upto}
use Rattle.plane_chains.proofs.edge_tree.fill_all.Given as goal

abbrev pub invariant-loop-number : goal.invariant-loop-number
invariant-loop-number l = l.near.items ≡ upto l.number
