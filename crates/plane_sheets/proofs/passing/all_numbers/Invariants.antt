use Rattle.std.proofs.Common.{◌≡◌}
use Rattle.chain_terms.specs.Sums.{upto}
use Rattle.plane_sheets.proofs.passing.all_numbers.Given as goal

abbrev pub invariant-loop-number : goal.invariant-loop-number
invariant-loop-number l = l.numbers.items ≡ upto l.number
