-- The labels of the source faces of an operation, as they are kept until its mesh is made.
use Rattle.std.specs.Prelude.{ℕ, List, [], Option, Some, None}
use Rattle.mb_base.specs.Labels.{label_of_two}
use Rattle.mesh_boolean.specs.declared.labels.FaceLabels.{FaceLabels}
use Rattle.mesh_boolean.specs.declared.outcome.Outcome.{Outcome}

-- the label of source face x: of a face of the first mesh, or of one of the second behind them
abbrev pub face_label : FaceLabels → ℕ → List ℕ
face_label l x = label_of_two l.first l.second l.faces x

-- the same where there may be none
abbrev pub any_face_label : Option FaceLabels → ℕ → List ℕ
any_face_label None x = []
any_face_label (Some l) x = face_label l x

-- an outcome whose mesh has these labels
abbrev pub with_labels : Outcome → List (List ℕ) → Outcome
with_labels o labels = record o { mesh = record { points = o.mesh.points; triples = o.mesh.triples; labels = labels } }
