use Rattle.std.proofs.Common.{rules, ℕ, List, length, ◌∙◌, ap}
use Rattle.std.proofs.lemmas.Result.{IfOk-weaker}
use Rattle.mesh_terms.specs.Labels.{label_at}
use Rattle.mesh_boolean.proofs.labels.reduced_labels.Goals as goal

pub returns-then-is_plainly_reduced-clause-labels : goal.returns-then-is_plainly_reduced-clause-labels
returns-then-is_plainly_reduced-clause-labels c =
    let same = c.is_plainly_reduced.ensures.labels (search rules) in
    IfOk-weaker c.shared_labels.result _ _ (λ r at t. at t ∙ ap (λ (l : List (List ℕ)). label_at l t) same) c.shared_labels.ensures.labels

pub returns-then-is_plainly_reduced-clause-count : goal.returns-then-is_plainly_reduced-clause-count
returns-then-is_plainly_reduced-clause-count c =
    let same = c.is_plainly_reduced.ensures.labels (search rules) in
    IfOk-weaker c.shared_labels.result _ _ (λ r is. is ∙ ap length same) c.shared_labels.ensures.count

pub returns-clause-labels : goal.returns-clause-labels
returns-clause-labels c =
    IfOk-weaker c.shared_labels-2.result _ _ (λ r at t. at t ∙ ap (λ (l : List (List ℕ)). label_at l t) c.in_ok-mesh.ensures.labels) c.shared_labels-2.ensures.labels

pub returns-clause-count : goal.returns-clause-count
returns-clause-count c = IfOk-weaker c.shared_labels-2.result _ _ (λ r is. is ∙ ap length c.in_ok-mesh.ensures.labels) c.shared_labels-2.ensures.count
