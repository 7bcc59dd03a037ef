use Rattle.std.proofs.Common.{◌≡◌}
use Rattle.chain_terms.specs.Sums.{upto}
use Rattle.outlines.proofs.outline.numbers_to.Given as goal

abbrev pub invariant-loop-number : goal.invariant-loop-number
invariant-loop-number l = l.numbers.items ≡ upto l.number
