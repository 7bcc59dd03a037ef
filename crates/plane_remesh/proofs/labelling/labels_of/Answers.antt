use Rattle.std.proofs.Common.{◌≡◌, ◌<◌, length, map, ap, sym, subst, ◌∙◌}
use Rattle.std.specs.List.{All}
use Rattle.std.proofs.lemmas.List.{length-map}
use Rattle.std.proofs.lemmas.Result.{IfOk-weaker}
use Rattle.mb_base.specs.Labels.{label_of_two}
use Rattle.mesh_terms.specs.Labels.{label_at}
use Rattle.mesh_terms.specs.Meshes.{triple_of}
use Rattle.plane_remesh.proofs.Labels.{gathered}
use Rattle.plane_remesh.proofs.labelling.labels_of.Goals as goal

pub returns : goal.returns
returns c =
    let labels = c.args.labels.now in
    let sources = c.args.sources.now in
    let count = length c.triples.result.now in
    let same : length c.args.mesh.now.triples ≡ count = sym (ap length c.triples.ensures.value) ∙ length-map c.triples.result.now triple_of in
    let low = subst (λ n. All (λ t. t < n) sources) same c.requires.sources in
    IfOk-weaker c.of_faces.result (λ of. of ≡ map (label_of_two labels c.args.none.now count) sources) (λ of. of ≡ map (label_at labels) sources)
    (λ of is. is ∙ ap (λ none. map (label_of_two labels none count) sources) c.requires.none ∙ gathered labels count sources low) c.of_faces.ensures
