-- Calls of a shelf that met the reading of a mesh, or the writing of one.
use Rattle.std.proofs.Common.{◌≡◌, ℕ, List, [], Option, Result, Ok, Err, IsTrue, inl, inr, refl, ℤ}
use Rattle.mesh_terms.specs.Limits.{Limits}
use Rattle.mesh_terms.specs.Meshes.{Triple}
use Rattle.run_terms.specs.Files.{Bytes, Files, Grew, put}
use Rattle.run_terms.specs.Runs.{Write, Partial}
use Rattle.run_terms.specs.Tasks.{give}
use Rattle.run_terms.specs.Meets.{Unwritten, Seen, Meets}
use Rattle.play_terms.specs.Commands.{ask_file, ask_mesh, checked, write_mesh}
use Rattle.play_terms.specs.Formats.{mesh_soup, mesh_text}
use Rattle.mb_outside.specs.Seen.{OnShelf, ShelfMeets, seen}
use Rattle.mesh_files.specs.Reads.{soup_with}
use Rattle.mesh_files.specs.Reasons.{ended_by, why_of}
use Rattle.mesh_files.specs.declared.stop.Stop.{Stop}
use Rattle.mesh_files.specs.declared.reading.Read.{Read}
use Rattle.mesh_files.proofs.Saved.{IsSavedInPart}
use Rattle.play_laws.proofs.Tasks.{meets_then, meets_stop}

-- a mesh was read or not, after its file
pub mesh_read : (k : ℕ) (limits : Limits) (name bytes : Bytes) (before now : OnShelf) (r : Result Read Stop)
    → ShelfMeets (ask_file limits name) before now (Ok bytes) →
    ((now : Seen) → Meets (give (checked name (mesh_soup k limits name bytes))) now now (ended_by soup_with name r))
    → ShelfMeets (ask_mesh k limits name) before now (ended_by soup_with name r)
mesh_read k limits name bytes before now r file mesh told outs =
    meets_then (ask_file limits name) (λ bytes. give (checked name (mesh_soup k limits name bytes))) bytes (ended_by soup_with name r)
    (seen before told outs) (seen now told outs) (seen now told outs)
    (file told outs) (mesh (seen now told outs))

-- a mesh was not read, since its file was not
pub mesh_unread : (k : ℕ) (limits : Limits) (name : Bytes) (before now : OnShelf) (stop : Stop)
    → ShelfMeets (ask_file limits name) before now (Err (why_of name stop)) → ShelfMeets (ask_mesh k limits name) before now (Err (why_of name stop))
mesh_unread k limits name before now stop file told outs =
    meets_stop (ask_file limits name) (λ bytes. give (checked name (mesh_soup k limits name bytes))) (why_of name stop) (seen before told outs)
    (seen now told outs) (file told outs)

-- a file that was saved in part left a part of the writing
saved_in_part : (name text : Bytes) (fw fv : Files) (told : Option Bytes) → IsSavedInPart name text fw fv
    → Partial (Write name text) (record { files = fw; out = told }) (record { files = fv; out = told })
saved_in_part name text fw fv told (inl same) = inl (rw same refl)
saved_in_part name text fw fv told (inr part) = inr (part.0, part.1, rw part.2 refl)

-- the file could not be written
pub unwritten : (k : ℕ) (name : Bytes) (points : List (List ℤ)) (triples : List Triple) (labels : List Bytes) (before now : OnShelf)
    → now.tells ≡ before.tells → now.read ≡ before.read → now.short ≡ before.short → Grew before.write now.write
    → (IsTrue before.tells → IsSavedInPart name (mesh_text k name points triples labels) before.files now.files)
    → ShelfMeets (write_mesh k name points triples labels) before now (Err (Unwritten name))
unwritten k name points triples labels before now tells read short grew part told outs =
    let text = mesh_text k name points triples labels in
    record {
      tells = tells;
      faults = (grew, read, short, refl);
      does = λ t. (text, record { whole = []; later = []; split = refl; part = saved_in_part name text before.files now.files told (part t) });
    }

-- the file was written
pub written_whole : (k : ℕ) (name : Bytes) (points : List (List ℤ)) (triples : List Triple) (labels : List Bytes) (before now : OnShelf)
    → now.tells ≡ before.tells → now.read ≡ before.read → now.short ≡ before.short → now.write ≡ before.write
    → (IsTrue before.tells → now.files ≡ put name (mesh_text k name points triples labels) before.files)
    → ShelfMeets (write_mesh k name points triples labels) before now (Ok tt)
written_whole k name points triples labels before now tells read short write files told outs =
    record {
      tells = tells;
      faults = rw (read, short, write) refl;
      does = λ t. record { gives = refl; all_done = rw (files t) refl };
    }
