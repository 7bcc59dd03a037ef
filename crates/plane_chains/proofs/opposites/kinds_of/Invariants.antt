use Rattle.std.proofs.Common.{get_or, map, ◌≡◌}
use Rattle.chain_terms.specs.Sums.{upto}
use Rattle.plane_chains.specs.Opposites.{kind, some_at}
use Rattle.plane_chains.proofs.opposites.kinds_of.Given as goal

abbrev pub invariant-loop-i : goal.invariant-loop-i
invariant-loop-i l = l.kinds.items ≡ map (λ j. kind (get_or l.sets j 0) (some_at l.some j).1) (upto l.i)
