use Rattle.chain_terms.specs.Chains.{all_edges}
use Rattle.side_terms.specs.Conservation.{half_number}
use Rattle.operation_tests.proofs.Conserved.{RowAgrees}
use Rattle.operation_tests.proofs.faces.conserved.row_agrees.Given as goal

-- the pairs so far agree
abbrev pub invariant-loop-g : goal.invariant-loop-g
invariant-loop-g l = RowAgrees (half_number (all_edges l.p.triples) l.x12) (half_number (all_edges l.q.triples) l.x21) l.f l.g
