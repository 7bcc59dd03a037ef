use Rattle.std.proofs.Common.{◌≡◌, ◌+◌, ◌*◌}
use Rattle.chain_terms.specs.Chains.{all_edges}
use Rattle.chain_terms.specs.Sums.{total, upto}
use Rattle.side_terms.specs.Conservation.{half_number}
use Rattle.operation_tests.proofs.faces.conserved.pair_number.Given as goal

-- the sum over the half-edges so far
abbrev pub invariant-loop-i : goal.invariant-loop-i
invariant-loop-i l = l.sum ≡ total (λ i. half_number (all_edges l.side.triples) l.hits (3 * l.face + i) l.other) (upto l.i)
