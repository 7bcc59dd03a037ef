use Rattle.std.proofs.Common.{length, ◌∙◌, ap, arith}
use Rattle.mesh_terms.specs.Labels.{labels_for}
use Rattle.mesh_check.specs.Reduced.{picked}
use Rattle.mesh_check.proofs.MarkedLabels.{marked_few, marked_none, marked_some}
use Rattle.mesh_check.proofs.marks.with_marked_labels.Goals as goal

pub marked_labels-requires-clause-few : goal.marked_labels-requires-clause-few
marked_labels-requires-clause-few c = omega (arith, c.in-Some.ensures.few, c.requires.marks)

pub with_labels-requires : goal.with_labels-requires
with_labels-requires c =
    omega (
      arith,
      ap length c.in_ok-marked_labels-in-Some.ensures,
      marked_few c.args.marks.now c.args.whole.now.triples c.args.kept.triples c.in-Some.labels.now
          c.requires.marks c.requires.count c.in-Some.ensures.few,
    )

pub returns-in_ok-marked_labels-in-Some-clause-labels : goal.returns-in_ok-marked_labels-in-Some-clause-labels
returns-in_ok-marked_labels-in-Some-clause-labels c =
    let ms = c.args.marks.now in
    let us = c.args.kept.triples in
    c.with_labels.ensures.labels ∙ ap (labels_for us) c.in_ok-marked_labels-in-Some.ensures
    ∙ marked_some ms c.args.whole.now.triples us c.in-Some.labels.now c.requires.marks c.requires.count c.in-Some.ensures.few ∙ ap (picked ms) c.in-Some.ensures.value

pub returns-in-None-clause-labels : goal.returns-in-None-clause-labels
returns-in-None-clause-labels c = c.requires.empty ∙ marked_none c.args.marks.now c.args.whole.now.triples c.requires.marks ∙ ap (picked c.args.marks.now) c.in-None.ensures.value
