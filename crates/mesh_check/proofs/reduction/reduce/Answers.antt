use Rattle.std.proofs.Common.{rules, ◌≡◌, List, length, sym, ◌∙◌, ap, subst, arith}
use Rattle.std.proofs.lemmas.List.{length-map}
use Rattle.std.proofs.lemmas.Result.{IfOk-weaker}
use Rattle.mesh_terms.specs.Labels.{AreLabels}
use Rattle.mesh_terms.specs.Meshes.{Triple, Mesh, Soup, IsMesh, triple_of, triples_of}
use Rattle.mesh_check.specs.Reduced.{kept_triples, reduced, NoOpposite, kept_marks}
use Rattle.mesh_check.proofs.KeptLabels.{length-kept_marks}
use Rattle.mesh_check.proofs.KeptMarks.{kept_by_marks, picked_all}
use Rattle.mesh_check.proofs.ReducedMesh.{reduced_no_opposite, reduced_itself}
use Rattle.mesh_check.proofs.reduction.reduce.Goals as goal
use Rattle.mesh_check.proofs.reduction.reduce.Goals.{After-drop-marks-then-len-triples}

-- a mesh of which as many triples are kept as there are is its reduced mesh
all_stay : (m : Mesh) (kept : List Triple) → kept ≡ kept_triples m.triples → length kept ≡ length m.triples → IsMesh (length m.points) m.triples →
    AreLabels (length m.triples) m.labels
    → reduced m.points m.triples m.labels ≡ record { points = m.points; triples = m.triples; labels = m.labels; unused = 0 }
all_stay m kept is count mesh labels =
    let ts = m.triples in
    reduced_itself m.points ts m.labels mesh labels.one_each (kept_by_marks ts ∙ picked_all (kept_marks ts) ts (sym (ap length (is ∙ kept_by_marks ts)) ∙ count))

-- the triples of a reduced mesh
apart_by : (m : Mesh) (us : List Triple) → IsMesh (length m.points) m.triples → us ≡ (reduced m.points m.triples m.labels).triples → NoOpposite us
apart_by m us mesh is = subst NoOpposite (sym is) (reduced_no_opposite m.points m.triples m.labels mesh)

pub returns-then-is_plainly_reduced-clause-points : goal.returns-then-is_plainly_reduced-clause-points
returns-then-is_plainly_reduced-clause-points c = ap (λ (m : Mesh). m.points) c.in_ok-clone.ensures.cases ∙ c.is_plainly_reduced.ensures.points (search rules)

pub returns-then-is_plainly_reduced-clause-triples : goal.returns-then-is_plainly_reduced-clause-triples
returns-then-is_plainly_reduced-clause-triples c = ap (λ (m : Mesh). m.triples) c.in_ok-clone.ensures.cases ∙ c.is_plainly_reduced.ensures.triples (search rules)

pub returns-then-is_plainly_reduced-clause-labels : goal.returns-then-is_plainly_reduced-clause-labels
returns-then-is_plainly_reduced-clause-labels c = ap (λ (m : Mesh). m.labels) c.in_ok-clone.ensures.cases ∙ c.is_plainly_reduced.ensures.labels (search rules)

pub returns-then-is_plainly_reduced-clause-apart : goal.returns-then-is_plainly_reduced-clause-apart
returns-then-is_plainly_reduced-clause-apart c =
    subst NoOpposite (sym (ap (λ (m : Mesh). m.triples) c.in_ok-clone.ensures.cases)) (c.is_plainly_reduced.ensures.apart (search rules))

-- as many are kept as there are
count_here : (c : After-drop-marks-then-len-triples)
    → reduced c.args.mesh.now.points c.args.mesh.now.triples c.args.mesh.now.labels
    ≡ record { points = c.args.mesh.now.points; triples = c.args.mesh.now.triples; labels = c.args.mesh.now.labels; unused = 0 }
count_here c =
    let kept = c.in_ok-triples.triples.items in
    let count : length (triples_of kept) ≡ length c.args.mesh.now.triples =
    omega (
      arith,
      c.if-len-triples.true,
      c.len.ensures,
      c.in_ok-triples.triples.ok.0,
      length-map kept triple_of,
      length-map c.triples-2.result.now triple_of,
      ap length c.triples-2.ensures.value,
    ) in
    all_stay c.args.mesh.now (triples_of kept) c.in_ok-triples.ensures count c.triples.ensures.accepted.mesh c.labels.ensures.labels

pub returns-then-len-triples-clause-points : goal.returns-then-len-triples-clause-points
returns-then-len-triples-clause-points c = ap (λ (m : Mesh). m.points) c.in_ok-clone-2.ensures.cases ∙ sym (ap (λ (s : Soup). s.points) (count_here c))

pub returns-then-len-triples-clause-triples : goal.returns-then-len-triples-clause-triples
returns-then-len-triples-clause-triples c = ap (λ (m : Mesh). m.triples) c.in_ok-clone-2.ensures.cases ∙ sym (ap (λ (s : Soup). s.triples) (count_here c))

pub returns-then-len-triples-clause-labels : goal.returns-then-len-triples-clause-labels
returns-then-len-triples-clause-labels c = ap (λ (m : Mesh). m.labels) c.in_ok-clone-2.ensures.cases ∙ sym (ap (λ (s : Soup). s.labels) (count_here c))

pub returns-then-len-triples-clause-apart : goal.returns-then-len-triples-clause-apart
returns-then-len-triples-clause-apart c = apart_by c.args.mesh.now c.in_ok-clone-2.field-0.triples c.triples.ensures.accepted.mesh (returns-then-len-triples-clause-triples c)

pub returns-clause-apart : goal.returns-clause-apart
returns-clause-apart c =
    IfOk-weaker c.with_kept_labels.result _ _ (λ m is. apart_by c.args.mesh.now m.triples c.triples.ensures.accepted.mesh (is ∙ c.in_ok-kept.ensures.triples))
    c.with_kept_labels.ensures.triples

pub with_kept_labels-requires-clause-known : goal.with_kept_labels-requires-clause-known
with_kept_labels-requires-clause-known c =
    let ts = triples_of c.triples.result.now in
    let few = c.triples.ensures.accepted.mesh.few_triples in
    omega (arith, ap length c.deref-2.ensures.value, ap length c.in_ok-marks.ensures, length-kept_marks ts, ap length c.triples.ensures.value, few)
