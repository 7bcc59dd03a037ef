use Rattle.std.proofs.Common.{◌≡◌, ◌<◌, ℕ, get_or}
use Rattle.mesh_boolean.specs.Labels.{any_face_label}
use Rattle.mesh_terms.specs.Labels.{label_at}
use Rattle.mesh_boolean.proofs.labels.have_labels.Given as goal

abbrev pub invariant-loop-triangle : goal.invariant-loop-triangle
invariant-loop-triangle l = (k : ℕ) → k < l.triangle → label_at l.mesh.labels k ≡ any_face_label l.faces (get_or l.source k 0)
