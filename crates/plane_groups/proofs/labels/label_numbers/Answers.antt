use Rattle.std.proofs.Common.{◌∙◌, ap, sym}
use Rattle.mesh_terms.specs.Labels.{label_at}
use Rattle.mesh_terms.proofs.Labels.{label_at-for}
use Rattle.plane_groups.proofs.Labelled.{numbers_tell_of}
use Rattle.plane_groups.proofs.labels.label_numbers.Goals as goal

pub returns-in_ok-numbers-in-Some-clause-same : goal.returns-in_ok-numbers-in-Some-clause-same
returns-in_ok-numbers-in-Some-clause-same c =
    numbers_tell_of c.in-Some.labels.now c.args.mesh.now.labels c.args.sources.now c.in_ok-numbers-in-Some.numbers.items
    (λ t. sym (label_at-for c.args.mesh.now.triples c.in-Some.labels.now t) ∙ ap (λ l. label_at l t) c.in-Some.ensures.value)
    c.in_ok-numbers-in-Some.ensures.same
