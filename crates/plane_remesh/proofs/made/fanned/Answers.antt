use Rattle.std.proofs.Common.{Option, ◌≡◌, arith, false, subst, true}
use Rattle.std.specs.Prelude.{MatchOption}
use Rattle.std.proofs.lemmas.List.{length-map}
use Rattle.chain_terms.specs.Chains.{all_edges}
use Rattle.mesh_terms.specs.Meshes.{Mesh, triple_of, triples_of}
use Rattle.sheet_terms.specs.Remesh.{is_closed}
use Rattle.plane_remesh.specs.Rules.{IsOfUsed}
use Rattle.plane_remesh.proofs.Fans.{fanned_is}
use Rattle.plane_remesh.proofs.made.fanned.Goals as goal

pub closed_mesh-requires : goal.closed_mesh-requires
closed_mesh-requires c = record {
  three = c.requires.three;
  below = c.requires.below;
  few_points = c.requires.points;
  few_triples = omega (arith, length-map c.args.triples.items triple_of, c.if-len.false, c.len.ensures);
}

pub returns-in_ok-with_fans-in-Some : goal.returns-in_ok-with_fans-in-Some
returns-in_ok-with_fans-in-Some c =
    let points = c.args.points.now in
    let ts = triples_of c.args.triples.items in
    let closed = is_closed (all_edges ts) in
    let told =
    subst (λ (o : Option Mesh). MatchOption o (closed ≡ false) (λ made. (closed ≡ true) × IsOfUsed points ts made)) c.in-Some.is c.in_ok-closed.ensures in
    (told.0, fanned_is points ts c.in-Some.closed _ told.1 c.in_ok-with_fans-in-Some.ensures)
