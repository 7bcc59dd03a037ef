-- A mesh that is read of its own text is accepted, at points of the grid and within the limits; and such a mesh is read of its text.
use Rattle.std.proofs.Common.{◌≡◌, ◌≤◌, ℕ, Bool, true, false, if◌then◌else◌, [], ◌∷◌, Some, Result, Ok, Err, length, refl}
use Rattle.std.specs.Prelude.{nat_lt}
use Rattle.chain_terms.specs.Chains.{all_edges}
use Rattle.mesh_terms.specs.Faults.{FileBytes}
use Rattle.mesh_terms.specs.Given.{IsGivenWithin}
use Rattle.mesh_terms.specs.Limits.{IsLawful, Limits}
use Rattle.mesh_terms.specs.Meshes.{Mesh, Soup}
use Rattle.format_terms.specs.ObjWritten.{obj_text}
use Rattle.run_terms.specs.Files.{Bytes}
use Rattle.run_terms.specs.Runs.{Ask}
use Rattle.run_terms.specs.Tasks.{PastLimit, Refusal, give, joined}
use Rattle.play_terms.specs.Commands.{checked}
use Rattle.play_terms.specs.Formats.{mesh_soup}
use Rattle.play_laws.proofs.ReadingBack.{closed_readable, mesh_taken}
use Rattle.halfedge.proofs.OpenPair.{closed_from_open_pair, open_pair_closed}
use Rattle.play_laws.specs.ScriptsReadingBack.{MeshReadable, soup_of_mesh}

-- what the bytes of a file without a name give, where each file holds a text
abbrev read_as : ℕ → Limits → Bytes → Result Bytes Refusal → Result Soup Refusal
read_as k limits text r = (joined (Ask [] ∷ []) r (λ bytes. give (checked [] (mesh_soup k limits [] bytes)) (λ name. Some text))).result

-- a mesh that is read of its own text is accepted, at points of the grid and within the limits
pub within_of_readable : (k : ℕ) (limits : Limits) (m : Mesh) → IsLawful limits → MeshReadable k limits m → IsGivenWithin limits m
within_of_readable k limits m lawful readable = by_length (nat_lt limits.file_bytes (length text)) (readable [] (λ name. Some text) refl refl)
  where
    text : Bytes
    text = obj_text k m.points m.triples m.labels

    given : checked [] (mesh_soup k limits [] text) ≡ Ok (soup_of_mesh m) → IsGivenWithin limits m
    given is =
        let taken = mesh_taken k limits [] text (soup_of_mesh m) lawful is in
        let within = taken.0.within in
        record {
          given = record {
            accepted = record { mesh = within.mesh; closed = closed_from_open_pair (all_edges m.triples) taken.1 };
            on_grid =
                within.on_grid;
            labels = taken.0.labels;
          };
          few_points = within.few_points;
          few_triples = within.few_triples;
        }

    by_length : (b : Bool) → read_as k limits text (if b then Err (PastLimit FileBytes (length text)) else Ok text) ≡ Ok (soup_of_mesh m) → IsGivenWithin limits m
    by_length true is = absurd (cc)
    by_length false is = given is

-- such a mesh is read of its text
pub readable_within : (k : ℕ) (limits : Limits) (m : Mesh) → k ≤ 6 → IsLawful limits → IsGivenWithin limits m → MeshReadable k limits m
readable_within k limits m few lawful within =
    let mesh = within.given.accepted.mesh in
    closed_readable k limits (soup_of_mesh m) few lawful
    (record {
      within =
          record { on_grid = within.given.on_grid; mesh = mesh; few_points = within.few_points; few_triples = within.few_triples };
      labels = within.given.labels;
    })
    (open_pair_closed (all_edges m.triples) within.given.accepted.closed)
