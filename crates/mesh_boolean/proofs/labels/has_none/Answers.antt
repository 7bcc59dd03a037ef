use Rattle.std.proofs.Common.{not, ◌∙◌, ap}
use Rattle.mesh_boolean.proofs.Labelled.{given_none}
use Rattle.mesh_boolean.proofs.labels.has_none.Goals as goal

pub returns : goal.returns
returns c =
    λ none. given_none (λ labels. labels.now) c.labels.result c.args.mesh.now.triples c.args.mesh.now.labels c.labels.ensures.value (c.is_none.ensures ∙ ap not none)
