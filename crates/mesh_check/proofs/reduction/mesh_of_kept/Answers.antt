use Rattle.std.proofs.Common.{◌≡◌, ℤ, List, length, sym, ◌∙◌, ap, subst}
use Rattle.std.proofs.lemmas.Result.{IfOk-weaker}
use Rattle.chain_terms.specs.Chains.{all_edges, IsClosed}
use Rattle.mesh_terms.specs.Labels.{no_labels}
use Rattle.mesh_terms.specs.Meshes.{Triple, renumbered, triples_of, used_from}
use Rattle.unused_points.specs.Used.{IsSound}
use Rattle.mesh_check.specs.Reduced.{kept_triples}
use Rattle.mesh_check.proofs.Kept.{kept_closed}
use Rattle.mesh_check.proofs.ReducedMesh.{kept_sound, mesh_triangles}
use Rattle.mesh_check.proofs.reduction.mesh_of_kept.Goals as goal

-- the points that the kept triples use, from what was read
used_is : (read points : List (List ℤ)) (ts us : List Triple) → read ≡ points → ts ≡ us → used_from ts 0 read ≡ used_from us 0 points
used_is read points ts us same is = λ i. used_from (is i) 0 (same i)

pub mesh_of_used-requires-clause-sound : goal.mesh_of_used-requires-clause-sound
mesh_of_used-requires-clause-sound c =
    let n = length c.args.mesh.now.points in
    let ts = c.args.mesh.now.triples in
    let sound = subst (IsSound n) (sym c.requires) (kept_sound n ts c.points.ensures.accepted.mesh) in
    subst (λ l. IsSound (length l) (triples_of c.args.triples.items)) (sym c.points.ensures.value) sound

pub mesh_of_used-requires-clause-closed : goal.mesh_of_used-requires-clause-closed
mesh_of_used-requires-clause-closed c =
    let m = c.args.mesh.now in
    let triangles = mesh_triangles (length m.points) m.triples c.points.ensures.accepted.mesh in
    subst (λ l. IsClosed (all_edges l)) (sym c.requires) (kept_closed m.triples triangles c.points.ensures.accepted.closed)

pub returns-clause-points : goal.returns-clause-points
returns-clause-points c =
    let ts = triples_of c.args.triples.items in
    IfOk-weaker c.mesh_of_used.result _ _
    (λ m is. is ∙ used_is c.points.result.now c.args.mesh.now.points ts (kept_triples c.args.mesh.now.triples) c.points.ensures.value c.requires)
    c.mesh_of_used.ensures.points

pub returns-clause-triples : goal.returns-clause-triples
returns-clause-triples c = IfOk-weaker c.mesh_of_used.result _ _ (λ m is. is ∙ ap renumbered c.requires) c.mesh_of_used.ensures.triples

pub returns-clause-labels : goal.returns-clause-labels
returns-clause-labels c = IfOk-weaker c.mesh_of_used.result _ _ (λ m is. is ∙ ap no_labels c.requires) c.mesh_of_used.ensures.labels
