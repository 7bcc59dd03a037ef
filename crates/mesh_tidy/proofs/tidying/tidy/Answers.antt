use Rattle.std.proofs.Common.{◌≡◌, ℕ, ◌*◌, ◌<◌, true, List, [], length, refl, sym, ap, subst, ◌∙◌, arith}
use Rattle.std.specs.List.{All}
use Rattle.chain_terms.specs.Chains.{all_edges, IsClosed}
use Rattle.mesh_terms.specs.Labels.{AreLabels}
use Rattle.mesh_terms.specs.Meshes.{IsAccepted, Mesh}
use Rattle.tidy_terms.specs.Tidy.{Tidied, tidied, tidy_mesh}
use Rattle.tidy_laws.specs.Laws.{IsTidyMesh}
use Rattle.mesh_tidy.specs.Doubts.{AreDoubted, AreHalves, HasLesserAtOne}
use Rattle.mesh_tidy.specs.TidySurface.{TidySurface, HasTidied, IsSurface, labels_of, left_of}
use Rattle.mesh_tidy.proofs.Done.{none_there}
use Rattle.mesh_tidy.proofs.Doubted.{first_doubted}
use Rattle.mesh_tidy.proofs.Finished.{made_count, made_mesh, nothing_done, same_mesh, sound_left, tidy_law}
use Rattle.mesh_tidy.proofs.Whole.{picked_true}
use Rattle.mesh_tidy.proofs.tidying.tidy.Goals as goal
use Rattle.mesh_tidy.proofs.tidying.tidy.Goals.{After-drop-doubts-then-is_empty, In_ok-into_mesh}

-- nothing is in doubt
nothing : (c : After-drop-doubts-then-is_empty) → HasLesserAtOne c.args.mesh.now.points c.args.mesh.now.triples []
nothing c =
    let none = none_there c.in_ok-doubts.doubts.keys (λ some. absurd (omega (arith, some, c.is_empty.ensures.0 c.if-is_empty.true))) in
    subst (HasLesserAtOne c.args.mesh.now.points c.args.mesh.now.triples) none c.in_ok-doubts.ensures.lesser

each_before : (c : After-drop-doubts-then-is_empty) → All (λ p. length p ≡ 3) c.args.mesh.now.points
each_before c = subst (All (λ p. length p ≡ 3)) c.points.ensures.value c.read_points.ensures

mesh_before : (c : After-drop-doubts-then-is_empty) → c.in_ok-clone.field-0 ≡ tidy_mesh c.args.mesh.now
mesh_before c = c.in_ok-clone.ensures.cases ∙ same_mesh c.args.mesh.now (each_before c) c.points.ensures.accepted (nothing c)

law_before : (c : After-drop-doubts-then-is_empty) → IsTidyMesh c.args.mesh.now c.in_ok-clone.field-0
law_before c = tidy_law c.args.mesh.now (each_before c) c.points.ensures.accepted c.in_ok-clone.field-0 (mesh_before c)

pub returns-then-is_empty-clause-mesh : goal.returns-then-is_empty-clause-mesh
returns-then-is_empty-clause-mesh c = mesh_before c

pub returns-then-is_empty-clause-collapsed : goal.returns-then-is_empty-clause-collapsed
returns-then-is_empty-clause-collapsed c = sym (ap (λ (t : Tidied). t.collapses) (nothing_done c.args.mesh.now (each_before c) c.points.ensures.accepted (nothing c)))

pub returns-then-is_empty-clause-none : goal.returns-then-is_empty-clause-none
returns-then-is_empty-clause-none c = (law_before c).none

pub returns-then-is_empty-clause-accepted : goal.returns-then-is_empty-clause-accepted
returns-then-is_empty-clause-accepted c = (law_before c).accepted

pub returns-then-is_empty-clause-clean : goal.returns-then-is_empty-clause-clean
returns-then-is_empty-clause-clean c = (law_before c).clean

pub returns-then-is_empty-clause-volume : goal.returns-then-is_empty-clause-volume
returns-then-is_empty-clause-volume c = (law_before c).volume

pub returns-then-is_empty-clause-at_points : goal.returns-then-is_empty-clause-at_points
returns-then-is_empty-clause-at_points c = (law_before c).at_points

pub collapse_all-requires-clause-points : goal.collapse_all-requires-clause-points
collapse_all-requires-clause-points c = ap length c.points-2.ensures.value ∙ sym c.in_ok-surface.ensures.vertices

pub collapse_all-requires-clause-each : goal.collapse_all-requires-clause-each
collapse_all-requires-clause-each c = subst (All (λ p. length p ≡ 3)) (c.points.ensures.value ∙ sym c.points-2.ensures.value) c.read_points.ensures

pub collapse_all-requires-clause-doubts : goal.collapse_all-requires-clause-doubts
collapse_all-requires-clause-doubts c =
    let m = c.args.mesh.now in
    let s = c.in_ok-surface.surface in
    let of = c.in_ok-surface.ensures in
    let listed = subst (λ ts. HasLesserAtOne m.points ts c.in_ok-doubts.doubts.keys) (sym of.triples) c.in_ok-doubts.ensures.lesser in
    let whole = of.whole ∙ sym of.triples in
    let surface = c.vertices.ensures.surface in
    let closed : IsClosed (all_edges s.triples) = subst (λ ts. IsClosed (all_edges ts)) (sym of.triples) c.points.ensures.accepted.closed in
    subst (λ ps. AreDoubted ps s c.in_ok-doubts.doubts.keys) (sym c.points-2.ensures.value)
    (first_doubted m.points s c.in_ok-doubts.doubts.keys surface.marks of.left whole closed listed)

pub collapse_all-requires-clause-halves : goal.collapse_all-requires-clause-halves
collapse_all-requires-clause-halves c = subst (λ ts. AreHalves ts c.in_ok-doubts.doubts.keys) (sym c.in_ok-surface.ensures.triples) c.in_ok-doubts.ensures.halves

-- each triangle of the surface has its label
labels_before : (m : Mesh) (s : TidySurface) → IsSurface s → s.triples ≡ m.triples → AreLabels (length m.triples) m.labels → All (λ mark. mark ≡ true) s.left →
    labels_of s m.labels ≡ m.labels
labels_before m s surface same labels all = picked_true s.left m.labels (omega (arith, surface.marks, ap length same, labels.one_each)) all

pub into_mesh-requires-clause-sound : goal.into_mesh-requires-clause-sound
into_mesh-requires-clause-sound c =
    let m = c.args.mesh.now in
    let of = c.in_ok-surface.ensures in
    let first = c.in_ok-surface.surface in
    let last = c.in_ok-surface-2.surface in
    let n = c.in_ok-surface-2.collapsed in
    sound_left m (subst (All (λ p. length p ≡ 3)) c.points.ensures.value c.read_points.ensures) c.points.ensures.accepted first last n of.whole
    (labels_before m first c.vertices.ensures.surface of.triples c.labels.ensures.labels of.left)
    (c.labels.ensures.labels.one_each ∙ sym (ap length of.triples)) (subst (λ ps. HasTidied ps first last n) c.points-2.ensures.value c.in_ok-surface-2.ensures.tidied)

pub into_mesh-requires-clause-count : goal.into_mesh-requires-clause-count
into_mesh-requires-clause-count c = c.in_ok-surface-2.ensures.count ∙ ap length c.in_ok-surface.ensures.triples

each_after : (c : In_ok-into_mesh) → All (λ p. length p ≡ 3) c.args.mesh.now.points
each_after c = subst (All (λ p. length p ≡ 3)) c.points.ensures.value c.read_points.ensures

mesh_after : (c : In_ok-into_mesh) → c.in_ok-into_mesh.field-0 ≡ tidy_mesh c.args.mesh.now
mesh_after c =
    let m = c.args.mesh.now in
    let of = c.in_ok-surface.ensures in
    let first = c.in_ok-surface.surface in
    let last = c.in_ok-surface-2.surface in
    let n = c.in_ok-surface-2.collapsed in
    made_mesh m (each_after c) c.points.ensures.accepted first last n of.whole (labels_before m first c.vertices.ensures.surface of.triples c.labels.ensures.labels of.left)
    (c.labels.ensures.labels.one_each ∙ sym (ap length of.triples)) (subst (λ ps. HasTidied ps first last n) c.points-2.ensures.value c.in_ok-surface-2.ensures.tidied)
    c.in_ok-into_mesh.field-0 c.in_ok-into_mesh.ensures.points c.in_ok-into_mesh.ensures.triples c.in_ok-into_mesh.ensures.labels

law_after : (c : In_ok-into_mesh) → IsTidyMesh c.args.mesh.now c.in_ok-into_mesh.field-0
law_after c = tidy_law c.args.mesh.now (each_after c) c.points.ensures.accepted c.in_ok-into_mesh.field-0 (mesh_after c)

pub returns-clause-mesh : goal.returns-clause-mesh
returns-clause-mesh c = mesh_after c

pub returns-clause-collapsed : goal.returns-clause-collapsed
returns-clause-collapsed c =
    let m = c.args.mesh.now in
    let of = c.in_ok-surface.ensures in
    let first = c.in_ok-surface.surface in
    let last = c.in_ok-surface-2.surface in
    let n = c.in_ok-surface-2.collapsed in
    made_count m (each_after c) c.points.ensures.accepted first last n of.whole (labels_before m first c.vertices.ensures.surface of.triples c.labels.ensures.labels of.left)
    (c.labels.ensures.labels.one_each ∙ sym (ap length of.triples)) (subst (λ ps. HasTidied ps first last n) c.points-2.ensures.value c.in_ok-surface-2.ensures.tidied) n refl

pub returns-clause-none : goal.returns-clause-none
returns-clause-none c = (law_after c).none

pub returns-clause-accepted : goal.returns-clause-accepted
returns-clause-accepted c = (law_after c).accepted

pub returns-clause-clean : goal.returns-clause-clean
returns-clause-clean c = (law_after c).clean

pub returns-clause-volume : goal.returns-clause-volume
returns-clause-volume c = (law_after c).volume

pub returns-clause-at_points : goal.returns-clause-at_points
returns-clause-at_points c = (law_after c).at_points
