-- Calls of a shelf that met the asking for a file.
use Rattle.std.proofs.Common.{◌≡◌, ℕ, [], false, Option, Some, None, Result, Ok, Err, IsTrue, IfOk, IfErr, OnOk, ◌⊎◌, ap, sym, subst, refl, ◌∙◌}
use Rattle.mesh_terms.specs.Limits.{Limits}
use Rattle.run_terms.specs.Files.{Bytes, Files, Grew, length_of}
use Rattle.run_terms.specs.Runs.{World}
use Rattle.run_terms.specs.Tasks.{Refusal}
use Rattle.run_terms.specs.Meets.{Refused, Unread, Why, Meets}
use Rattle.play_terms.specs.Commands.{ask_file, bytes_in}
use Rattle.mb_outside.specs.Seen.{OnShelf, ShelfMeets, seen}
use Rattle.mesh_files.specs.Sizes.{IsSizeStop}
use Rattle.mesh_files.specs.Reasons.{ended_by, is_reading_stop, why_of}
use Rattle.mesh_files.specs.declared.stop.Stop.{Stop}
use Rattle.mesh_files.proofs.FileTexts.{bytes_of_long, bytes_of_none}

abbrev world_of : Files → Option Bytes → World
world_of files told = record { files = files; out = told }

-- the file could not be read
pub unread : (limits : Limits) (name : Bytes) (before now : OnShelf) → now.tells ≡ before.tells → now.files ≡ before.files → now.write ≡ before.write
    → (Grew before.read now.read × (now.short ≡ before.short)) ⊎ ((before.tells ≡ false) × Grew before.short now.short × (now.read ≡ before.read))
    → ShelfMeets (ask_file limits name) before now (Err (Unread name))
unread limits name before now tells files write rose told outs =
    record {
      tells = tells;
      faults = (rose, write, refl);
      does = λ t. record { whole = []; later = []; split = refl; part = ap (λ f. world_of f told) files };
    }

-- the file was refused
pub refused : (limits : Limits) (name : Bytes) (why : Refusal) (before now : OnShelf)
    → now.tells ≡ before.tells → now.files ≡ before.files → now.read ≡ before.read → now.short ≡ before.short → now.write ≡ before.write
    → (IsTrue before.tells → bytes_in limits name (before.files name) ≡ Err why)
    → ShelfMeets (ask_file limits name) before now (Err (Refused why))
refused limits name why before now tells files read short write is told outs =
    record {
      tells = tells;
      faults = rw (read, short, write) refl;
      does = λ t. record { gives = is t; all_done = ap (λ f. world_of f told) files };
    }

-- a file of such a size is refused
pub size_refused : (limits : Limits) (name : Bytes) (before now : OnShelf) (most : ℕ) (size : Option ℕ) (stop : Stop) → most ≡ limits.file_bytes
    → now.tells ≡ before.tells → now.files ≡ before.files → now.read ≡ before.read → now.short ≡ before.short → now.write ≡ before.write
    → (IsTrue before.tells → size ≡ length_of (before.files name)) → IsSizeStop most size stop → ShelfMeets (ask_file limits name) before now (Err (why_of name stop))
size_refused limits name before now most None stop same tells files read short write long is =
    rw is (refused limits name _ before now tells files read short write (λ told. bytes_of_none limits name (before.files name) (sym (long told))))
size_refused limits name before now most (Some n) stop same tells files read short write long is =
    rw is.0 (refused limits name _ before now tells files read short write (λ told. bytes_of_long limits name (before.files name) most n (sym (long told)) same is.1))

pub is_reading : (most : ℕ) (size : Option ℕ) (stop : Stop) → IsSizeStop most size stop → IsTrue (is_reading_stop stop)
is_reading most None stop is = rw is refl
is_reading most (Some n) stop is = rw is.0 refl

-- the file was read
pub read_whole : (limits : Limits) (name bytes : Bytes) (before now : OnShelf) → now ≡ before → (IsTrue before.tells → bytes_in limits name (before.files name) ≡ Ok bytes)
    → ShelfMeets (ask_file limits name) before now (Ok bytes)
read_whole limits name bytes before now same is told outs =
    let P : OnShelf → Type 0 = λ on. Meets (ask_file limits name) (seen before told outs) (seen on told outs) (Ok bytes) in
    subst P (sym same) (record { tells = refl; faults = refl; does = λ t. record { gives = is t; all_done = refl } })

-- what was met from an equal shelf on
pub met_from : (limits : Limits) (name : Bytes) (before mid now : OnShelf) (ended : Result Bytes Why) → mid ≡ before
    → ShelfMeets (ask_file limits name) mid now ended → ShelfMeets (ask_file limits name) before now ended
met_from limits name before mid now ended same meets told outs =
    let P : OnShelf → Type 0 = λ on. Meets (ask_file limits name) (seen on told outs) (seen now told outs) ended in
    subst P same (meets told outs)

-- a file was read or not, after its size
pub file_read : {T : Type 0} (value : T → Bytes) (limits : Limits) (name : Bytes) (before mid now : OnShelf) (r : Result T Stop) → mid ≡ before
    → OnOk r (now ≡ mid) → IfOk r (λ x. IsTrue before.tells → bytes_in limits name (before.files name) ≡ Ok (value x))
    → IfErr r (λ stop. ShelfMeets (ask_file limits name) mid now (Err (why_of name stop)))
    → ShelfMeets (ask_file limits name) before now (ended_by value name r)
file_read value limits name before mid now (Ok x) same stays is meets = read_whole limits name (value x) before now (stays ∙ same) is
file_read value limits name before mid now (Err stop) same stays is meets = met_from limits name before mid now (Err (why_of name stop)) same meets
