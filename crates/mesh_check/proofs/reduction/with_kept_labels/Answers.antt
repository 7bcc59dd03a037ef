use Rattle.std.proofs.Common.{◌≡◌, Bool, List, length, sym, ◌∙◌, ap}
use Rattle.std.proofs.lemmas.Result.{IfOk-weaker}
use Rattle.mesh_terms.specs.Labels.{no_labels}
use Rattle.mesh_terms.specs.Meshes.{Triple}
use Rattle.mesh_check.specs.Reduced.{kept_marks, kept_triples, picked}
use Rattle.mesh_check.proofs.KeptLabels.{length-kept_marks}
use Rattle.mesh_check.proofs.KeptMarks.{kept_by_marks}
use Rattle.mesh_check.proofs.reduction.with_kept_labels.Goals as goal

-- the triples with marks are the kept ones
kept_is : (ts : List Triple) (marks : List Bool) → marks ≡ kept_marks ts → kept_triples ts ≡ picked marks ts
kept_is ts marks known = kept_by_marks ts ∙ ap (λ (ms : List Bool). picked ms ts) (sym known)

pub with_marked_labels-requires-clause-marks : goal.with_marked_labels-requires-clause-marks
with_marked_labels-requires-clause-marks c = ap length c.requires.marks ∙ length-kept_marks c.args.mesh.now.triples

pub with_marked_labels-requires-clause-count : goal.with_marked_labels-requires-clause-count
with_marked_labels-requires-clause-count c = c.requires.count ∙ ap length (kept_is c.args.mesh.now.triples c.args.marks.now c.requires.marks)

pub with_marked_labels-requires-clause-empty : goal.with_marked_labels-requires-clause-empty
with_marked_labels-requires-clause-empty c = c.requires.empty ∙ ap no_labels (kept_is c.args.mesh.now.triples c.args.marks.now c.requires.marks)

pub returns-clause-labels : goal.returns-clause-labels
returns-clause-labels c =
    IfOk-weaker c.with_marked_labels.result _ _ (λ m is. is ∙ ap (λ (ms : List Bool). picked ms c.args.mesh.now.labels) c.requires.marks) c.with_marked_labels.ensures.labels
