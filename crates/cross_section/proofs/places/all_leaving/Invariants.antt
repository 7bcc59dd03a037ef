use Rattle.std.proofs.Common.{◌≡◌, map}
use Rattle.chain_terms.specs.Sums.{upto}
use Rattle.cross_section.proofs.First.{first_from}
use Rattle.cross_section.proofs.places.all_leaving.Given as goal

abbrev pub invariant-loop-k : goal.invariant-loop-k
invariant-loop-k l = l.places.items ≡ map (first_from (λ e. e.0) l.edges l.k) (upto l.count)
