use Rattle.std.proofs.Common.{ℕ, List, sym, ◌∙◌, ap}
use Rattle.mesh_terms.specs.Labels.{label_at}
use Rattle.mesh_terms.proofs.Labels.{label_at-for, label_at-none}
use Rattle.mesh_boolean.proofs.labels.shared_labels.Goals as goal

pub returns-in_ok-copy-in-Some-clause-labels : goal.returns-in_ok-copy-in-Some-clause-labels
returns-in_ok-copy-in-Some-clause-labels c = λ t.
    ap (λ (l : List (List ℕ)). label_at l t) c.in_ok-copy-in-Some.ensures
    ∙ sym (label_at-for c.args.mesh.now.triples c.in-Some.labels.now t) ∙ ap (λ (l : List (List ℕ)). label_at l t) c.in-Some.ensures.value

pub returns-in-None-clause-labels : goal.returns-in-None-clause-labels
returns-in-None-clause-labels c = λ t.
    ap (λ (l : List (List ℕ)). label_at l t) c.start.ensures
    ∙ sym (label_at-none c.args.mesh.now.triples t) ∙ ap (λ (l : List (List ℕ)). label_at l t) c.in-None.ensures.value
