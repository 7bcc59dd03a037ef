use Rattle.std.proofs.Common.{[], get_or, length, map, subst, sym, take}
use Rattle.std.proofs.lemmas.List.{get_or_default}
use Rattle.chain_terms.specs.Chains.{all_edges}
use Rattle.mesh_terms.specs.Meshes.{triples_of}
use Rattle.edge_cutting.specs.Edges.{AreLong, pair_of}
use Rattle.edge_cutting.proofs.LongEdges.{below_at, edges_all, edges_more, long_none}
use Rattle.edge_cutting.proofs.edges.long_edges.Goals as goal

pub loop-triple-init : goal.loop-triple-init
loop-triple-init c = subst (λ l. AreLong c.args.points.now [] (map pair_of l)) (sym c.new-edges.ensures.items) (long_none c.args.points.now)

pub push_all-requires-clause-below : goal.push_all-requires-clause-below
push_all-requires-clause-below c =
    let ts = c.args.triples.now in
    let i = c.loop-triple.triple-index in
    below_at (length c.args.points.now) ts i (get_or ts i []) c.requires.below c.loop-triple-test.true (get_or_default ts i [] (get_or ts i []) c.loop-triple-test.true)

pub loop-triple-preserved : goal.loop-triple-preserved
loop-triple-preserved c =
    let ts = c.args.triples.now in
    let i = c.loop-triple.triple-index in
    subst (λ l. AreLong c.args.points.now l (map pair_of c.push_all.new.edges.items))
    (sym (edges_more ts i (get_or ts i []) c.loop-triple-test.true (get_or_default ts i [] (get_or ts i []) c.loop-triple-test.true)))
    (c.in_ok-push_all.ensures (all_edges (triples_of (take i ts))) c.loop-triple.invariant)

pub returns : goal.returns
returns c =
    subst (λ l. AreLong c.args.points.now l (map pair_of c.loop-triple.edges.items)) (edges_all c.args.triples.now c.loop-triple.triple-index c.loop-triple-test.false)
    c.loop-triple.invariant
