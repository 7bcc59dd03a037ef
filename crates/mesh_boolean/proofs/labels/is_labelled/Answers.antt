use Rattle.std.proofs.Common.{◌≡◌, map, ap, sym, ◌∙◌}
use Rattle.mesh_terms.specs.Labels.{label_at}
use Rattle.mesh_boolean.specs.Labels.{any_face_label}
use Rattle.mesh_boolean.specs.Operation.{face_labels}
use Rattle.mesh_boolean.proofs.Labelled.{map-same_everywhere}
use Rattle.mesh_boolean.proofs.labels.is_labelled.Goals as goal

pub returns : goal.returns
returns c =
    let r = c.args.outcome.now in
    let kept = c.in_ok-faces.faces in
    let same : map (any_face_label kept) c.deref.result.now ≡ map (label_at (face_labels c.args.p.now c.args.q.now)) r.source.items =
    ap (map (any_face_label kept)) c.deref.ensures.value
    ∙ map-same_everywhere r.source.items (any_face_label kept) (label_at (face_labels c.args.p.now c.args.q.now)) c.in_ok-faces.ensures in
    ((λ e. c.have_labels.ensures.0 e ∙ same), (λ s. c.have_labels.ensures.1 (s ∙ sym same)))
