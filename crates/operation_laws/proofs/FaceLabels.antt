-- The labels of what an operation makes are labels, one for each triangle.
use Rattle.std.specs.List.{All}
use Rattle.std.proofs.lemmas.List.Elements.{All-append}
use Rattle.mesh_boolean.specs.Operation.{face_labels, reduced_mesh}
use Rattle.mesh_terms.specs.Given.{IsGiven}
use Rattle.mesh_terms.specs.Labels.{IsLabel}
use Rattle.mesh_terms.specs.Meshes.{Mesh}
use Rattle.split_laws.proofs.Labels.{kept_labels}

-- those of the source faces are labels
pub face_labels-are : (p q : Mesh) → IsGiven p → IsGiven q → All IsLabel (face_labels p q)
face_labels-are p q p_given q_given =
    All-append IsLabel (reduced_mesh p).labels (reduced_mesh q).labels (kept_labels p.triples p.labels p_given.labels).each
    (kept_labels q.triples q.labels q_given.labels).each
