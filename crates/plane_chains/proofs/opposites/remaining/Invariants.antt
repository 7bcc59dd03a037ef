use Rattle.std.proofs.Common.{List, filter, length, map, ◌*◌, ◌≡◌, ℕ}
use Rattle.chain_terms.specs.Sums.{upto}
use Rattle.plane_chains.specs.Opposites.{AreSets, kinds_of, some_at, stays}
use Rattle.plane_chains.proofs.Opposed.{IsCounted}
use Rattle.plane_chains.proofs.opposites.remaining.Given as goal

abbrev pub invariant-loop-i : goal.invariant-loop-i
invariant-loop-i l = record {
  counted : IsCounted (kinds_of l.sets l.some) (2 * length l.some) l.i l.passed;
  left : (rims : List (List ℕ)) → AreSets rims l.some l.sets → l.left.items ≡ map (λ j. (some_at l.some j).0) (filter (stays rims l.some) (upto l.i));
}
