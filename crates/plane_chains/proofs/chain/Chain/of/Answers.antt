use Rattle.std.proofs.Common.{◌<◌, ◌∙◌, IfOk, List, ap, arith, length, map, subst, sym}
use Rattle.std.specs.List.{All}
use Rattle.sheet_terms.specs.Chains.{same_edge}
use Rattle.plane_chains.specs.declared.chain.Way.{Way}
use Rattle.plane_chains.specs.Nets.{IsStored}
use Rattle.plane_chains.specs.Ways.{way_chain, way_up}
use Rattle.plane_chains.proofs.ChainParts.{placed_moved}
use Rattle.plane_chains.proofs.NetSizes.{if_ok_always}
use Rattle.plane_chains.proofs.WayLists.{ways_labels}
use Rattle.plane_chains.proofs.chain.Chain.of.Goals as goal

pub chain_of-requires-clause-placed : goal.chain_of-requires-clause-placed
chain_of-requires-clause-placed c =
    placed_moved same_edge (map way_up c.deref.result.now) (map way_up c.deref-2.result.now) c.in_ok-edges.edges.keys c.as_slice.result.now
    c.in_ok-edges.edge_of.items c.deref-3.result.now (ap (map way_up) (c.deref.ensures.value ∙ sym c.deref-2.ensures.value)) (sym c.as_slice.ensures.keys)
    (sym c.deref-3.ensures.value) c.in_ok-edges.ensures

pub returns-clause-stored : goal.returns-clause-stored
returns-clause-stored c = λ n h.
    let is = c.deref-2.ensures.value ∙ c.in_ok-ways.ensures.ways in
    let below = subst (λ ws. All (λ (w : Way). w.label < n) ws) (sym is) (ways_labels n c.args.rims.now.0 c.args.labels.now c.args.marks.now c.requires.labels h) in
    subst (λ (ws : List Way). IfOk c.chain_of.result (λ x. IsStored (way_chain n ws) x.edges.items x.nets.0)) is (c.chain_of.ensures n below)

pub returns-clause-few : goal.returns-clause-few
returns-clause-few c = if_ok_always c.chain_of.result (omega (arith, ap length c.in_ok-ways.ensures.ways, c.in_ok-ways.ensures.few))
