use Rattle.std.proofs.Common.{ℕ, ◌<◌, length}
use Rattle.chain_terms.specs.Chains.{all_edges}
use Rattle.side_terms.specs.Conservation.{half_number}
use Rattle.operation_tests.proofs.Conserved.{RowAgrees}
use Rattle.operation_tests.proofs.faces.conserved.pairs_agree.Given as goal

-- the rows so far agree
abbrev pub invariant-loop-f : goal.invariant-loop-f
invariant-loop-f l = (f : ℕ) → f < l.f → RowAgrees (half_number (all_edges l.p.triples) l.x12) (half_number (all_edges l.q.triples) l.x21) f (length l.q.triples)
