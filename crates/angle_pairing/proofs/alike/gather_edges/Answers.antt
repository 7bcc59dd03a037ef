use Rattle.std.proofs.Common.{◌≡◌, ◌*◌, ◌∙◌, ap, arith, length, map, subst}
use Rattle.std.proofs.lemmas.List.{length-map}
use Rattle.chain_terms.specs.Chains.{all_edges}
use Rattle.mesh_terms.specs.Meshes.{triples_of}
use Rattle.sheet_terms.specs.Chains.{upward}
use Rattle.angle_pairing.specs.Gathered.{AreGathered}
use Rattle.angle_pairing.proofs.Lists.{edge_count}
use Rattle.angle_pairing.proofs.alike.gather_edges.Goals as goal
use Rattle.angle_pairing.proofs.alike.gather_edges.Goals.{After-deref-2}

-- the ends of each edge, upward
ways_are : (c : After-deref-2) → c.in_ok-ways.ways.items ≡ map upward (all_edges (triples_of c.args.triples.now))
ways_are c = c.in_ok-ways.ensures ∙ ap (map upward) (c.deref.ensures.value ∙ c.in_ok-edges.ensures)

pub gather-requires : goal.gather-requires
gather-requires c =
    let many : length c.in_ok-ways.ways.items ≡ 3 * length c.args.triples.now =
    ap length (ways_are (goal.at.gather-requires c).After-deref-2) ∙ length-map (all_edges (triples_of c.args.triples.now)) upward ∙ edge_count c.args.triples.now in
    omega (arith, ap length c.deref-2.ensures.value, many, c.requires)

pub returns-clause-ways : goal.returns-clause-ways
returns-clause-ways c = ways_are (goal.at.returns-clause-ways c).After-deref-2

pub returns-clause-gathered : goal.returns-clause-gathered
returns-clause-gathered c =
    subst (λ ps. AreGathered ps c.in_ok-gathered.gathered.firsts.items c.in_ok-gathered.gathered.groups)
    (c.deref-2.ensures.value ∙ ways_are (goal.at.returns-clause-gathered c).After-deref-2) c.in_ok-gathered.ensures
