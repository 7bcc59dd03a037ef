use Rattle.std.proofs.Common.{rules, length, sym, subst}
use Rattle.chain_terms.specs.Chains.{all_edges}
use Rattle.component_terms.proofs.Counted.{reached}
use Rattle.component_terms.specs.Components.{HasComponents}
use Rattle.spanning_forest.proofs.Spokes.{edges_below}
use Rattle.mesh_make.proofs.components.components.Goals as goal

pub returns-clause-count : goal.returns-clause-count
returns-clause-count c = search rules

pub returns-clause-components : goal.returns-clause-components
returns-clause-components c =
    let mesh = c.args.mesh.now in
    let points = length mesh.points in
    let es = all_edges mesh.triples in
    let below = edges_below points mesh.triples c.triples.ensures.accepted.mesh.below in
    subst (HasComponents points es) (sym (returns-clause-count c)) (reached points es below)
