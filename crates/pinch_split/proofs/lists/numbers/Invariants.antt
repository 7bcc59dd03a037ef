use Rattle.std.proofs.Common.{◌≡◌}
use Rattle.chain_terms.specs.Sums.{upto}
use Rattle.pinch_split.proofs.lists.numbers.Given as goal

-- the numbers so far
abbrev pub invariant-loop-number : goal.invariant-loop-number
invariant-loop-number l = l.numbers.items ≡ upto l.number
