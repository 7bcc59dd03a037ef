use Rattle.std.proofs.Common.{◌≡◌, ℕ, List, length, arith, ap, sym, subst}
use Rattle.std.proofs.lemmas.List.{length-map}
use Rattle.mesh_terms.specs.Labels.{label_at}
use Rattle.mesh_terms.specs.Meshes.{triple_of}
use Rattle.pinch_split.specs.Back.{ComeFrom, named_by}
use Rattle.retained_verts.specs.declared.list.Prescribed.{Prescribed}
use Rattle.mesh_boolean.specs.declared.outcome.Outcome.{Outcome}
use Rattle.mesh_boolean.specs.Labels.{any_face_label, with_labels}
use Rattle.mesh_boolean.specs.Operation.{Tests, face_labels}
use Rattle.mesh_boolean.specs.Results.{HasOrigins, IsBounded, IsCleanOver, IsFilled, IsLabelled, IsPrescribed}
use Rattle.mesh_boolean.proofs.Finished.{is_bounded, is_filled, is_prescribed}
use Rattle.mesh_boolean.proofs.Labelled.{map-same_everywhere}
use Rattle.mesh_boolean.proofs.operate.boolean.Given.{Over}
use Rattle.mesh_boolean.proofs.operate.boolean.Goals as goal

-- the kernels' tests
abbrev tests : (g : Over) → g.row.K.Denot → Tests
tests g k = record {
  vertex_face = g.K.Meets-5.meet_of k;
  face_vertex = g.K.Meets-6.meet_of k;
  edge_face = g.K.Crosses-1.crossing_of k;
  face_edge = g.K.Crosses-2.crossing_of k;
}

pub returns-clause-prescribed : goal.returns-clause-prescribed
returns-clause-prescribed g c =
    let made =
    is_prescribed (tests g c.args.kernels.now) c.args.op c.args.p.now c.args.q.now c.in_ok-prescribed.prescribed c.in_ok-prescribed.all
    c.in_ok-made.made c.in_ok-prescribed.ensures.assembled
    c.in_ok-made.ensures in
    subst (IsPrescribed (tests g c.args.kernels.now) c.args.op c.args.p.now c.args.q.now) (sym c.in_ok-labelled.ensures) made

pub returns-clause-faces : goal.returns-clause-faces
returns-clause-faces g c =
    let made =
    is_bounded (tests g c.args.kernels.now) c.args.op c.args.p.now c.args.q.now c.in_ok-prescribed.prescribed c.in_ok-prescribed.all
    c.in_ok-made.made c.in_ok-prescribed.ensures.assembled
    c.in_ok-made.ensures in
    subst (IsBounded (tests g c.args.kernels.now) c.args.op c.args.p.now c.args.q.now) (sym c.in_ok-labelled.ensures) made

pub returns-clause-filled : goal.returns-clause-filled
returns-clause-filled g c =
    let made =
    is_filled (tests g c.args.kernels.now) c.args.op c.args.p.now c.args.q.now c.in_ok-prescribed.prescribed c.in_ok-prescribed.all
    c.in_ok-made.made c.in_ok-prescribed.ensures.assembled
    c.in_ok-made.ensures in
    subst (IsFilled (tests g c.args.kernels.now) c.args.op c.args.p.now c.args.q.now) (sym c.in_ok-labelled.ensures)
    (record { points = made.points; triples = made.triples; from = made.from; source = made.source; forced = made.forced })

pub labelled-requires-clause-count : goal.labelled-requires-clause-count
labelled-requires-clause-count g c =
    (is_bounded (tests g c.args.kernels.now) c.args.op c.args.p.now c.args.q.now c.in_ok-prescribed.prescribed c.in_ok-prescribed.all
    c.in_ok-made.made c.in_ok-prescribed.ensures.assembled
    c.in_ok-made.ensures).each

pub returns-clause-labels : goal.returns-clause-labels
returns-clause-labels g c =
    let made =
    map-same_everywhere c.in_ok-made.made.source.items (any_face_label c.in_ok-labels.labels) (label_at (face_labels c.args.p.now c.args.q.now))
    c.in_ok-labels.ensures in
    subst (IsLabelled c.args.p.now c.args.q.now) (sym c.in_ok-labelled.ensures) made

pub returns-clause-from : goal.returns-clause-from
returns-clause-from g c =
    let r = c.in_ok-made.made in
    subst HasOrigins (sym c.in_ok-labelled.ensures)
    (subst (λ (v : Prescribed). ComeFrom r.mesh.points v.points.items r.from.items) (sym c.in_ok-made.ensures.prescribed) c.in_ok-made.ensures.there)

pub returns-clause-clean : goal.returns-clause-clean
returns-clause-clean g c = subst (λ (r : Outcome). IsCleanOver r.from.items r.mesh.triples) (sym c.in_ok-labelled.ensures) c.in_ok-made.ensures.clean

-- the mesh is the one that was made, but for its labels
same_triples : (o r : Outcome) (labels : List (List ℕ)) → r ≡ with_labels o labels → length r.mesh.triples ≡ length o.mesh.triples
same_triples o r labels is = ap (λ (s : Outcome). length s.mesh.triples) is

same_points : (o r : Outcome) (labels : List (List ℕ)) → r ≡ with_labels o labels → length r.mesh.points ≡ length o.mesh.points
same_points o r labels is = ap (λ (s : Outcome). length s.mesh.points) is

same_halfedges : (o r : Outcome) (labels : List (List ℕ)) → r ≡ with_labels o labels → r.prescribed.halfedges ≡ o.prescribed.halfedges
same_halfedges o r labels is = ap (λ (s : Outcome). s.prescribed.halfedges) is

pub returns-clause-few_triangles : goal.returns-clause-few_triangles
returns-clause-few_triangles g c =
    let r = c.in_ok-made.made in
    let all = c.in_ok-prescribed.all.triples.items in
    let same = ap (λ (v : Prescribed). v.halfedges) c.in_ok-made.ensures.prescribed in
    omega (
      arith,
      c.in_ok-prescribed.ensures.assembled.few,
      same,
      ap length c.in_ok-made.ensures.back,
      length-map r.mesh.triples (named_by r.from.items),
      length-map all triple_of,
      same_triples r c.in_ok-labelled.field-0 _ c.in_ok-labelled.ensures,
      same_halfedges r c.in_ok-labelled.field-0 _ c.in_ok-labelled.ensures,
    )

pub returns-clause-few_points : goal.returns-clause-few_points
returns-clause-few_points g c =
    let r = c.in_ok-made.made in
    let triples = same_triples r c.in_ok-labelled.field-0 _ c.in_ok-labelled.ensures in
    omega (arith, c.in_ok-made.ensures.few, returns-clause-few_triangles g c, triples, same_points r c.in_ok-labelled.field-0 _ c.in_ok-labelled.ensures)

pub returns-clause-halfedges : goal.returns-clause-halfedges
returns-clause-halfedges g c =
    let same = ap (λ (v : Prescribed). v.halfedges) c.in_ok-made.ensures.prescribed in
    omega (arith, same, c.in_ok-prescribed.ensures.within, same_halfedges c.in_ok-made.made c.in_ok-labelled.field-0 _ c.in_ok-labelled.ensures)

pub returns-clause-triangles : goal.returns-clause-triangles
returns-clause-triangles g c = omega (arith, returns-clause-few_triangles g c, returns-clause-halfedges g c, c.halfedges.ensures.lawful.triangles_enough)

pub returns-clause-points : goal.returns-clause-points
returns-clause-points g c =
    let r = c.in_ok-made.made in
    let triples = same_triples r c.in_ok-labelled.field-0 _ c.in_ok-labelled.ensures in
    let points = same_points r c.in_ok-labelled.field-0 _ c.in_ok-labelled.ensures in
    omega (arith, c.in_ok-made.ensures.few, returns-clause-triangles g c, triples, points, c.halfedges.ensures.lawful.points_enough)
