use Rattle.std.proofs.Common.{◌≡◌, [], length, get_or, take, rules, ap, sym, ◌∙◌}
use Rattle.mesh_terms.specs.Meshes.{HasThree, IsBelow, triple_of, triples_of}
use Rattle.lean.specs.Leans.{face_normal, normals_of}
use Rattle.lean.specs.Vectors.{added_at_corners}
use Rattle.lean.proofs.Normals.{length-normals, normals_more}
use Rattle.lean.proofs.Triangles.{triple_at, triples_more}
use Rattle.lean.proofs.short.add_normals.Goals as goal

pub loop-triple-init : goal.loop-triple-init
loop-triple-init c = record {
  value = c.requires;
  points = search rules;
  triples = search rules;
}

pub face_normal-requires : goal.face_normal-requires
face_normal-requires c =
    let n = length c.points-points.result.now in
    triple_at (IsBelow n) c.args.mesh.now.triples c.triples-triple-items.result.now c.loop-triple.triple-index c.triples-triple-items.ensures.value
    (rw (← c.points-points.ensures.value) at c.triples-triple-items.ensures.accepted.mesh.below) c.loop-triple-test.true

pub add_at_corners-requires : goal.add_at_corners-requires
add_at_corners-requires c =
    let points = c.args.mesh.now.points in
    let xs = c.triples-triple-items.result.now in
    let i = c.loop-triple.triple-index in
    let long : length c.loop-triple.normals ≡ length points = ap length c.loop-triple.invariant.value ∙ length-normals points (triples_of (take i xs)) in
    rw long (triple_at (IsBelow (length points)) c.args.mesh.now.triples xs i
    c.triples-triple-items.ensures.value c.triples-triple-items.ensures.accepted.mesh.below c.loop-triple-test.true)

pub loop-triple-preserved : goal.loop-triple-preserved
loop-triple-preserved c =
    let points = c.args.mesh.now.points in
    let xs = c.triples-triple-items.result.now in
    let i = c.loop-triple.triple-index in
    let t = triple_of (get_or xs i []) in
    let n = c.in_ok-normal.normal in
    let three = triple_at HasThree c.args.mesh.now.triples xs i c.triples-triple-items.ensures.value c.triples-triple-items.ensures.accepted.mesh.three c.loop-triple-test.true in
    let normal : n ≡ face_normal points t = c.in_ok-normal.ensures ∙ c.face_normal.ensures.value ∙ ap (λ ps. face_normal ps t) c.points-points.ensures.value in
    let more = normals_more points (triples_of (take i xs)) t three in
    record {
      value = c.in_ok-add_at_corners.ensures ∙ ap (λ ns. added_at_corners ns t n) c.loop-triple.invariant.value
          ∙ ap (λ m. added_at_corners (normals_of points (triples_of (take i xs))) t m) normal
          ∙ more ∙ ap (normals_of points) (sym (triples_more xs i c.loop-triple-test.true));
      points = c.loop-triple.invariant.points;
      triples = c.loop-triple.invariant.triples;
    }
