use Rattle.std.proofs.Common.{subst, sym}
use Rattle.chain_terms.specs.Chains.{all_edges, IsClosed}
use Rattle.mesh_terms.specs.Meshes.{triples_of}
use Rattle.halfedge.proofs.twins.Twins.of.Goals as goal

pub returns-clause-accepts : goal.returns-clause-accepts
returns-clause-accepts c closed = c.over.ensures.accepts (subst (λ l. IsClosed (all_edges (triples_of l))) (sym c.in_ok-triples.ensures) closed)
