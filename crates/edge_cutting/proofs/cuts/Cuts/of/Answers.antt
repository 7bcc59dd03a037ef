use Rattle.std.proofs.Common.{map, subst, sym}
use Rattle.std.specs.Prelude.{IfSome}
use Rattle.chain_terms.specs.Chains.{all_edges}
use Rattle.mesh_terms.specs.Meshes.{triples_of}
use Rattle.edge_cutting.specs.Edges.{AreLong, pair_of}
use Rattle.edge_cutting.specs.Pieces.{AreGathered}
use Rattle.edge_cutting.proofs.Pieced.{gathered_long}
use Rattle.edge_cutting.proofs.Rimmed.{has_rims}
use Rattle.edge_cutting.proofs.cuts.Cuts.of.Goals as goal

pub invariant_of-result : goal.invariant_of-result
invariant_of-result c =
    let points = c.args.points.now in
    let seen = map pair_of c.deref.result.now in
    let h : AreGathered points seen c.in-Some.pieces = subst (λ o. IfSome o (AreGathered points seen)) c.in-Some.is c.in_ok-pieces.ensures in
    (h.ends, gathered_long points seen c.in-Some.pieces h)

pub returns-in-Some : goal.returns-in-Some
returns-in-Some c =
    let points = c.args.points.now in
    let ts = triples_of c.args.triples.now in
    let seen = map pair_of c.deref.result.now in
    let h : AreGathered points seen c.in-Some.pieces = subst (λ o. IfSome o (AreGathered points seen)) c.in-Some.is c.in_ok-pieces.ensures in
    let are : AreLong points (all_edges ts) seen = subst (λ l. AreLong points (all_edges ts) (map pair_of l)) (sym c.deref.ensures.value) c.in_ok-long.ensures in
    has_rims points ts seen c.in-Some.pieces c.requires.apart c.requires.closed are h c.requires.below c.requires.three
