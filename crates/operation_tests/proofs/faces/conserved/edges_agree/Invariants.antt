use Rattle.std.proofs.Common.{pos}
use Rattle.std.specs.Prelude.{get_or}
use Rattle.chain_terms.specs.Chains.{all_edges}
use Rattle.side_terms.specs.Conservation.{half_number}
use Rattle.operation_tests.proofs.Conserved.{AgreeBelow}
use Rattle.operation_tests.proofs.faces.conserved.edges_agree.Given as goal

-- the half-edges so far agree
abbrev pub invariant-loop-half : goal.invariant-loop-half
invariant-loop-half l = AgreeBelow (all_edges l.side.triples) l.faces (λ v. get_or l.windings v (pos 0)) (half_number (all_edges l.side.triples) l.hits) l.half
