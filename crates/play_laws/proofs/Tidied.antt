-- The tidied mesh of one within limits.
use Rattle.std.proofs.Common.{◌≡◌, length, arith}
use Rattle.std.specs.List.{All}
use Rattle.std.proofs.lemmas.List.Elements.{All-weaker}
use Rattle.mesh_terms.specs.Given.{IsGivenWithin}
use Rattle.mesh_terms.specs.Limits.{Limits}
use Rattle.mesh_terms.specs.Meshes.{Mesh}
use Rattle.mesh_terms.specs.Points.{IsPoint}
use Rattle.format_laws.proofs.ObjReadMeshes.{used_from-all}
use Rattle.tidy_terms.specs.Tidy.{tidied, tidy_mesh}
use Rattle.tidy_laws.specs.Laws.{IsTidyMesh}
use Rattle.tidy_laws.proofs.KeptAll.{no_more_points, no_more_triples, tidied_labels}
use Rattle.tidy_laws.proofs.TidyMeshes.{tidy_meshes}

-- what tidying gives of an accepted mesh at points of the grid within limits
pub tidied_is_tidy : (limits : Limits) (m : Mesh) → IsGivenWithin limits m → IsTidyMesh m (tidy_mesh m)
tidied_is_tidy limits m within =
    let each : All (λ p. length p ≡ 3) m.points = All-weaker IsPoint (λ p. length p ≡ 3) (λ p is. is.three) m.points within.given.on_grid in
    tidy_meshes m each within.given.accepted

-- such a mesh stays one
pub tidied_given : (limits : Limits) (m : Mesh) → IsGivenWithin limits m → IsGivenWithin limits (tidy_mesh m)
tidied_given limits m within =
    let accepted = within.given.accepted in
    let each : All (λ p. length p ≡ 3) m.points = All-weaker IsPoint (λ p. length p ≡ 3) (λ p is. is.three) m.points within.given.on_grid in
    record {
      given = record {
        accepted = (tidy_meshes m each accepted).accepted;
        on_grid = used_from-all IsPoint (tidied m.points m.triples m.labels).triples 0 m.points within.given.on_grid;
        labels = tidied_labels m within.given.labels;
      };
      few_points = omega (arith, no_more_points m each accepted, within.few_points);
      few_triples = omega (arith, no_more_triples m each accepted, within.few_triples);
    }
