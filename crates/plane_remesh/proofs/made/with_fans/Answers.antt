use Rattle.std.proofs.Common.{Option, ◌≡◌, ◌∙◌, false, length, subst, sym, true}
use Rattle.std.specs.Prelude.{MatchOption}
use Rattle.std.proofs.lemmas.Bool.{both_ways}
use Rattle.chain_terms.specs.Chains.{all_edges}
use Rattle.mesh_terms.specs.Meshes.{IsAccepted, Mesh, triples_of}
use Rattle.sheet_terms.specs.Remesh.{is_closed}
use Rattle.unused_points.specs.Used.{IsSound}
use Rattle.plane_remesh.specs.Rules.{IsOfUsed, IsParted}
use Rattle.plane_remesh.proofs.Closed.{closed_tested}
use Rattle.plane_remesh.proofs.Fans.{parted_is}
use Rattle.plane_remesh.proofs.made.with_fans.Goals as goal

pub part_fans-requires : goal.part_fans-requires
part_fans-requires c =
    subst (λ ps. IsAccepted (length ps) (triples_of c.triples.result.now)) (sym c.points.ensures.value)
    (subst (IsAccepted (length c.args.made.now.points)) (sym c.triples.ensures.value) c.points.ensures.accepted)

pub closed_mesh-requires : goal.closed_mesh-requires
closed_mesh-requires c =
    let us = triples_of c.in_ok-points.field-0.triples.items in
    let a = c.in_ok-points.ensures.accepted.mesh in
    subst (λ ps. IsSound (length ps) us) (sym c.deref.ensures.value)
    (record { three = a.three; below = a.below; few_points = a.few_points; few_triples = a.few_triples })

pub returns : goal.returns
returns c =
    let at = c.deref.result.now in
    let us = triples_of c.in_ok-points.field-0.triples.items in
    let points = c.points.result.now in
    let ts = triples_of c.triples.result.now in
    let m = c.in-Some.mesh in
    let closed = is_closed (all_edges us) in
    let told =
    subst (λ (o : Option Mesh). MatchOption o (closed ≡ false) (λ made. (closed ≡ true) × IsOfUsed at us made)) c.in-Some.is c.in_ok-mesh.ensures in
    let accepted = subst (λ ps. IsAccepted (length ps) us) (sym c.deref.ensures.value) c.in_ok-points.ensures.accepted in
    let is = parted_is points ts at us m (c.deref.ensures.value ∙ c.in_ok-points.ensures.points) c.in_ok-points.ensures.triples accepted told.1 in
    subst (λ ps. IsParted ps c.args.made.now.triples m) c.points.ensures.value (subst (λ vs. IsParted points vs m) c.triples.ensures.value is)

pub unreachable-requires : goal.unreachable-requires
unreachable-requires c =
    let at = c.deref.result.now in
    let us = triples_of c.in_ok-points.field-0.triples.items in
    let closed = is_closed (all_edges us) in
    let told =
    subst (λ (o : Option Mesh). MatchOption o (closed ≡ false) (λ made. (closed ≡ true) × IsOfUsed at us made)) c.in-None.is c.in_ok-mesh.ensures in
    both_ways closed told (closed_tested (all_edges us) c.in_ok-points.ensures.accepted.closed)
