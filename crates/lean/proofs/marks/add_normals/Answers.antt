use Rattle.std.proofs.Common.{ℕ, ◌≡◌, ◌+◌, ◌*◌, ◌^◌, ◌≤◌, [], length, get_or, take, rules, arith, ap, sym, subst, ◌∙◌}
use Rattle.std.proofs.lemmas.List.{length-map}
use Rattle.mesh_terms.specs.Limits.{most_triangles}
use Rattle.mesh_terms.specs.Meshes.{HasThree, IsBelow, triple_of, triples_of}
use Rattle.lean.specs.Leans.{face_normal, normals_of}
use Rattle.lean.specs.Vectors.{AllSmall, added_at_corners}
use Rattle.lean.proofs.Normals.{length-normals, normals_more, small_below, small_none, small_three}
use Rattle.lean.proofs.Triangles.{triple_at, triples_more}
use Rattle.lean.proofs.marks.add_normals.Goals as goal

pub loop-triple-init : goal.loop-triple-init
loop-triple-init c = record {
  value = c.requires;
  small = subst (AllSmall 0) (sym c.requires) (small_none c.args.mesh.now.points);
  points = search rules;
  triples = search rules;
}

pub face_normal-normal-requires : goal.face_normal-normal-requires
face_normal-normal-requires c =
    let n = length c.points-points.result.now in
    triple_at (IsBelow n) c.args.mesh.now.triples c.triples-triple-items.result.now c.loop-triple.triple-index c.triples-triple-items.ensures.value
    (rw (← c.points-points.ensures.value) at c.triples-triple-items.ensures.accepted.mesh.below) c.loop-triple-test.true

pub add_at_corners-requires-clause-below : goal.add_at_corners-requires-clause-below
add_at_corners-requires-clause-below c =
    let points = c.args.mesh.now.points in
    let xs = c.triples-triple-items.result.now in
    let i = c.loop-triple.triple-index in
    let long : length c.loop-triple.normals ≡ length points = ap length c.loop-triple.invariant.value ∙ length-normals points (triples_of (take i xs)) in
    rw long (triple_at (IsBelow (length points)) c.args.mesh.now.triples xs i c.triples-triple-items.ensures.value
    c.triples-triple-items.ensures.accepted.mesh.below c.loop-triple-test.true)

pub add_at_corners-requires-clause-sums_small : goal.add_at_corners-requires-clause-sums_small
add_at_corners-requires-clause-sums_small c v =
    let xs = c.triples-triple-items.result.now in
    let i = c.loop-triple.triple-index in
    let few : length xs ≤ most_triangles =
    omega (arith, length-map xs triple_of, ap length c.triples-triple-items.ensures.value, c.triples-triple-items.ensures.accepted.mesh.few_triples) in
    small_below (i * (3 * 2 ^ 63)) (2 ^ 119) (get_or c.loop-triple.normals v []) (omega (arith, few)) (c.loop-triple.invariant.small v)

pub loop-triple-preserved : goal.loop-triple-preserved
loop-triple-preserved c =
    let points = c.args.mesh.now.points in
    let xs = c.triples-triple-items.result.now in
    let i = c.loop-triple.triple-index in
    let t = triple_of (get_or xs i []) in
    let n = c.face_normal-normal.result in
    let three = triple_at HasThree c.args.mesh.now.triples xs i c.triples-triple-items.ensures.value c.triples-triple-items.ensures.accepted.mesh.three c.loop-triple-test.true in
    let normal : n ≡ face_normal points t = c.face_normal-normal.ensures.value ∙ ap (λ ps. face_normal ps t) c.points-points.ensures.value in
    let more = normals_more points (triples_of (take i xs)) t three in
    let sum : i * (3 * 2 ^ 63) + 2 ^ 63 + 2 ^ 63 + 2 ^ 63 ≡ (i + 1) * (3 * 2 ^ 63) = omega arith in
    record {
      value = c.add_at_corners.ensures ∙ ap (λ ns. added_at_corners ns t n) c.loop-triple.invariant.value
          ∙ ap (λ m. added_at_corners (normals_of points (triples_of (take i xs))) t m) normal ∙ more
          ∙ ap (normals_of points) (sym (triples_more xs i c.loop-triple-test.true));
      small = subst (λ ns. AllSmall ((i + 1) * (3 * 2 ^ 63)) ns) (sym c.add_at_corners.ensures)
          (subst (λ (m : ℕ). AllSmall m (added_at_corners c.loop-triple.normals t n)) sum
          (small_three (i * (3 * 2 ^ 63)) (2 ^ 63) c.loop-triple.normals t n c.loop-triple.invariant.small c.face_normal-normal.ensures.small));
      points = c.loop-triple.invariant.points;
      triples = c.loop-triple.invariant.triples;
    }
