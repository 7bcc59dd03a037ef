-- What an operation gave in the program is what its definition tells.
use Rattle.std.proofs.Common.{◌∙◌, ap, map}
use Rattle.mb_base.specs.declared.op.Op.{Op}
use Rattle.mesh_boolean.specs.Operation.{Tests, face_labels, operation}
use Rattle.mesh_boolean.specs.Results.{IsFilled, IsLabelled, IsPrescribed}
use Rattle.mesh_boolean.specs.declared.outcome.Outcome.{Outcome}
use Rattle.mesh_terms.specs.Labels.{label_at}
use Rattle.mesh_terms.specs.Meshes.{Mesh}
use Rattle.operation_laws.specs.Kernels.{told_of}
use Rattle.script_runs.specs.Outcomes.{IsOutcome}

-- each of its triangles has the label of its source face, as the definition has it
pub operated : (t : Tests) (op : Op) (p q : Mesh) (r : Outcome) → IsPrescribed t op p q r → IsFilled t op p q r → IsLabelled p q r → IsOutcome (told_of (operation t op p q)) r
operated t op p q r prescribed filled labelled =
    let labels = labelled ∙ ap (map (label_at (face_labels p q))) filled.source in
    record {
      mesh = λ i. record { points = filled.points i; triples = filled.triples i; labels = labels i };
      kept = prescribed.kept;
      crossings = prescribed.crossings;
      forced = filled.forced;
    }
