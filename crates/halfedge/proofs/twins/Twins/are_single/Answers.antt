use Rattle.std.proofs.Common.{IsTrue, ◌↔◌, subst}
use Rattle.chain_terms.specs.Chains.{all_edges}
use Rattle.halfedge.specs.Laws.{AreSingle}
use Rattle.mesh_terms.specs.Twins.{Twins}
use Rattle.halfedge.proofs.twins.Twins.are_single.Goals as goal

pub returns : goal.returns
returns c = subst (λ (v : Twins). IsTrue c.self.inside.single ↔ AreSingle (all_edges v.triples)) c.self.view_is c.self.invariant.single_exactly
