use Rattle.std.proofs.Common.{◌≡◌}
use Rattle.chain_terms.specs.Chains.{all_edges}
use Rattle.chain_terms.specs.Sums.{total, upto}
use Rattle.side_terms.specs.Conservation.{half_number}
use Rattle.operation_tests.proofs.faces.conserved.sum_over_faces.Given as goal

-- the sum over the faces so far
abbrev pub invariant-loop-face : goal.invariant-loop-face
invariant-loop-face l = l.sum ≡ total (half_number (all_edges l.side.triples) l.hits l.half) (upto l.face)
