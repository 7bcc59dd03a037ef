use Rattle.std.proofs.Common.{◌≡◌, Bool, ℕ, ℤ, List, length, sym, ◌∙◌, ap, subst, arith}
use Rattle.std.proofs.lemmas.Result.{IfOk-weaker}
use Rattle.chain_terms.specs.Chains.{all_edges, IsClosed}
use Rattle.mesh_check.specs.Reduced.{picked}
use Rattle.mesh_check.proofs.MarkedLabels.{made_count, made_empty}
use Rattle.mesh_terms.specs.Labels.{no_labels}
use Rattle.mesh_terms.specs.Meshes.{Triple, renumbered, triples_of, used_from}
use Rattle.unused_points.specs.Used.{IsSound}
use Rattle.mesh_tidy.specs.TidySurface.{TidySurface, left_of}
use Rattle.mesh_tidy.proofs.surface.TidySurface.into_mesh.Goals as goal

-- the marked triples, from what was read
picked_is : (ts : List Triple) (read items : List (List ℕ)) (marks left : List Bool) → ts ≡ picked marks (triples_of read) → marks ≡ left → read ≡ items →
    ts ≡ picked left (triples_of items)
picked_is ts read items marks left is m r = is ∙ (λ i. picked (m i) (triples_of (r i)))

pub mesh_of_used-requires-clause-sound : goal.mesh_of_used-requires-clause-sound
mesh_of_used-requires-clause-sound c =
    let ts = triples_of c.in_ok-triples.triples.items in
    let is : ts ≡ left_of c.args.self =
    picked_is ts c.deref.result.now c.self.inside.triples.items c.deref-2.result.now c.self.inside.left.items c.in_ok-triples.ensures c.deref-2.ensures.value
    c.deref.ensures.value ∙ ap left_of c.self.view_is in
    subst (λ l. IsSound (length l) ts) (sym c.points.ensures.value) (subst (IsSound (length c.args.mesh.now.points)) (sym is) c.requires.sound)

pub mesh_of_used-requires-clause-closed : goal.mesh_of_used-requires-clause-closed
mesh_of_used-requires-clause-closed c =
    let ts = triples_of c.in_ok-triples.triples.items in
    let is = picked_is ts c.deref.result.now c.self.inside.triples.items c.deref-2.result.now c.self.inside.left.items c.in_ok-triples.ensures
    c.deref-2.ensures.value c.deref.ensures.value in
    subst (λ l. IsClosed (all_edges l)) (sym is) c.self.invariant.closed

pub with_marked_labels-requires-clause-marks : goal.with_marked_labels-requires-clause-marks
with_marked_labels-requires-clause-marks c =
    omega (arith, ap length c.deref-3.ensures.value, c.self.invariant.marks, ap (λ (v : TidySurface). length v.triples) c.self.view_is, c.requires.count)

pub with_marked_labels-requires-clause-known : goal.with_marked_labels-requires-clause-known
with_marked_labels-requires-clause-known c = omega (arith, ap length c.deref-3.ensures.value, c.self.invariant.marks, c.self.invariant.few)

pub with_marked_labels-requires-clause-count : goal.with_marked_labels-requires-clause-count
with_marked_labels-requires-clause-count c =
    let ts = triples_of c.in_ok-triples.triples.items in
    let us = triples_of c.self.inside.triples.items in
    let marks : length c.deref-3.result.now ≡ length c.args.mesh.now.triples = with_marked_labels-requires-clause-marks c in
    let same : length us ≡ length c.args.mesh.now.triples = ap (λ (v : TidySurface). length v.triples) c.self.view_is ∙ c.requires.count in
    let is = picked_is ts c.deref.result.now c.self.inside.triples.items c.deref-2.result.now c.deref-3.result.now c.in_ok-triples.ensures
    (c.deref-2.ensures.value ∙ sym c.deref-3.ensures.value) c.deref.ensures.value in
    made_count c.deref-3.result.now c.args.mesh.now.triples us c.in_ok-kept.kept.triples marks same (c.in_ok-kept.ensures.triples ∙ ap renumbered is)

pub with_marked_labels-requires-clause-empty : goal.with_marked_labels-requires-clause-empty
with_marked_labels-requires-clause-empty c =
    let ts = triples_of c.in_ok-triples.triples.items in
    let us = triples_of c.self.inside.triples.items in
    let marks : length c.deref-3.result.now ≡ length c.args.mesh.now.triples = with_marked_labels-requires-clause-marks c in
    let same : length us ≡ length c.args.mesh.now.triples = ap (λ (v : TidySurface). length v.triples) c.self.view_is ∙ c.requires.count in
    let is = picked_is ts c.deref.result.now c.self.inside.triples.items c.deref-2.result.now c.deref-3.result.now c.in_ok-triples.ensures
    (c.deref-2.ensures.value ∙ sym c.deref-3.ensures.value) c.deref.ensures.value in
    made_empty c.deref-3.result.now c.args.mesh.now.triples us c.in_ok-kept.kept.labels marks same (c.in_ok-kept.ensures.labels ∙ ap no_labels is)

-- what the mesh has, from the mesh that was made
points_is : (made read points : List (List ℤ)) (ts us : List Triple) → made ≡ used_from ts 0 read → read ≡ points → ts ≡ us → made ≡ used_from us 0 points
points_is made read points ts us is same ts_is = is ∙ (λ i. used_from (ts_is i) 0 (same i))

pub returns-clause-points : goal.returns-clause-points
returns-clause-points c =
    let ts = triples_of c.in_ok-triples.triples.items in
    let is = picked_is ts c.deref.result.now c.self.inside.triples.items c.deref-2.result.now c.self.inside.left.items c.in_ok-triples.ensures
    c.deref-2.ensures.value c.deref.ensures.value ∙ ap left_of c.self.view_is in
    IfOk-weaker c.with_marked_labels.result _ _
    (λ m e. e ∙ points_is c.in_ok-kept.kept.points c.points.result.now c.args.mesh.now.points ts (left_of c.args.self) c.in_ok-kept.ensures.points
    c.points.ensures.value is) c.with_marked_labels.ensures.points

pub returns-clause-triples : goal.returns-clause-triples
returns-clause-triples c =
    let ts = triples_of c.in_ok-triples.triples.items in
    let is = picked_is ts c.deref.result.now c.self.inside.triples.items c.deref-2.result.now c.self.inside.left.items c.in_ok-triples.ensures
    c.deref-2.ensures.value c.deref.ensures.value ∙ ap left_of c.self.view_is in
    IfOk-weaker c.with_marked_labels.result _ _ (λ m e. e ∙ c.in_ok-kept.ensures.triples ∙ ap renumbered is) c.with_marked_labels.ensures.triples

pub returns-clause-labels : goal.returns-clause-labels
returns-clause-labels c =
    let left = c.deref-3.ensures.value ∙ ap (λ (v : TidySurface). v.left) c.self.view_is in
    IfOk-weaker c.with_marked_labels.result _ _ (λ m e. e ∙ ap (λ (l : List Bool). picked l c.args.mesh.now.labels) left) c.with_marked_labels.ensures.labels
