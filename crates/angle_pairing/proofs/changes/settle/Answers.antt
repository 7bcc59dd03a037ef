use Rattle.std.proofs.Common.{◌≡◌, length, subst, sym, ap, ◌∙◌}
use Rattle.std.proofs.lemmas.List.{with_items_is}
use Rattle.chain_terms.specs.Chains.{all_edges}
use Rattle.mesh_terms.specs.Meshes.{triples_of}
use Rattle.sheet_terms.specs.Vertices.{settled}
use Rattle.fan_laws.specs.Pairs.{ArePaired}
use Rattle.angle_pairing.proofs.changes.settle.Goals as goal

pub change_partners-requires-clause-twins : goal.change_partners-requires-clause-twins
change_partners-requires-clause-twins c = subst (ArePaired (all_edges (triples_of c.args.triples.now))) (sym c.deref_mut.ensures.value) c.requires.twins

pub returns : goal.returns
returns c points below =
    let full : length c.change_partners.new.twins ≡ c.args.twins.len = c.change_partners.ensures.full ∙ ap length c.deref_mut.ensures.value ∙ sym c.args.twins.ok.0 in
    with_items_is c.args.twins c.change_partners.new.twins full ∙ c.in_ok-change_partners.ensures.settled points below
    ∙ ap (settled points (triples_of c.args.triples.now)) c.deref_mut.ensures.value
