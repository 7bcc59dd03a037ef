use Rattle.std.proofs.Common.{ℕ, List, [], map, length, sym, ◌∙◌, ap, arith}
use Rattle.std.proofs.lemmas.List.{length-map}
use Rattle.mesh_boolean.specs.Labels.{face_label}
use Rattle.mesh_boolean.proofs.Labelled.{all_empty, for_all, with_mesh, with_own}
use Rattle.mesh_boolean.proofs.labels.labelled.Goals as goal

pub returns-in_default : goal.returns-in_default
returns-in_default c =
    let o = c.args.outcome in
    rw c.in_default.is (with_own o (map {B = List ℕ} (λ (x : ℕ). []) o.source.items) (c.requires.empty ∙ sym (all_empty o.source.items o.mesh.triples c.requires.count)))

pub with_labels-requires : goal.with_labels-requires
with_labels-requires c =
    let l = c.in-Some.labels in
    let own = c.in_ok-labels.ensures ∙ ap (map (face_label l)) c.deref.ensures.value in
    omega (arith, ap length own, length-map c.args.outcome.source.items (face_label l), c.requires.count)

pub returns : goal.returns
returns c =
    let o = c.args.outcome in
    let l = c.in-Some.labels in
    let own = c.in_ok-labels.ensures ∙ ap (map (face_label l)) c.deref.ensures.value in
    let all = for_all o.mesh.triples c.in_ok-labels.labels (ap length own ∙ length-map o.source.items (face_label l) ∙ c.requires.count) in
    rw c.in-Some.is
    (with_mesh o c.with_labels.result (map (face_label l) o.source.items) c.with_labels.ensures.points c.with_labels.ensures.triples
    (c.with_labels.ensures.labels ∙ all ∙ own))
