use Rattle.std.proofs.Common.{length, ◌∙◌, ap, arith, map, refl}
use Rattle.std.proofs.lemmas.List.{length-map}
use Rattle.mesh_terms.specs.Labels.{label_at, labels_for}
use Rattle.plane_remesh.proofs.Labels.{mesh_same, sourced, sourced_none}
use Rattle.plane_remesh.proofs.labelling.with_labels_of.Goals as goal

pub with_labels-requires : goal.with_labels-requires
with_labels-requires c = omega (arith, ap length c.in_ok-labels_of-in-Some.ensures, length-map c.args.sources.now (label_at c.in-Some.labels.now), c.requires.each)

pub returns-in-Some : goal.returns-in-Some
returns-in-Some c =
    let made = c.args.made in
    let m = c.args.mesh.now in
    let sources = c.args.sources.now in
    let labels =
    c.with_labels.ensures.labels ∙ ap (labels_for made.triples) c.in_ok-labels_of-in-Some.ensures ∙ sourced m.triples made.triples c.in-Some.labels.now sources c.requires.each
    ∙ ap (λ l. map (label_at l) sources) c.in-Some.ensures.value in
    mesh_same c.with_labels.result (record made { labels = map (label_at m.labels) sources }) c.with_labels.ensures.points c.with_labels.ensures.triples labels

pub returns : goal.returns
returns c =
    let made = c.args.made in
    let m = c.args.mesh.now in
    let sources = c.args.sources.now in
    let labels = c.requires.empty ∙ sourced_none m.triples made.triples sources c.requires.each ∙ ap (λ l. map (label_at l) sources) c.in-None.ensures.value in
    mesh_same made (record made { labels = map (label_at m.labels) sources }) refl refl labels
