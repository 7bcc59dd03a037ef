-- What is written can be read. An STL text is only said to be that of such a mesh: read again, its points are welded and stand in another order.
use Rattle.std.specs.Prelude.{◌≡◌, ℕ, false, Option, Some, None, Ok}
use Rattle.mesh_terms.specs.Limits.{Limits}
use Rattle.mesh_terms.specs.Meshes.{Soup}
use Rattle.format_terms.specs.ObjWritten.{obj_text}
use Rattle.format_terms.specs.StlWritten.{is_stl}
use Rattle.run_terms.specs.Files.{Bytes, Files}
use Rattle.run_terms.specs.Runs.{Action, Ask, Write, Say}
use Rattle.play_terms.specs.Commands.{ask_mesh}
use Rattle.play_terms.specs.Formats.{mesh_text}
use Rattle.play_terms.specs.Words.{Command, CopyFile, InsideFile, RunScript}

-- the points, triples and labels of a mesh, all points used: what is to be read where the mesh was written
abbrev pub as_saved : Soup → Soup
as_saved m = record { points = m.points; triples = m.triples; labels = m.labels; unused = 0 }

-- wherever a file that is no STL file by its name holds the OBJ text of the mesh, the mesh is read of it
abbrev pub IsReadable : ℕ → Limits → Soup → Type 0
IsReadable k limits m =
    (name : Bytes) (files : Files) → is_stl name ≡ false → files name ≡ Some (obj_text k m.points m.triples m.labels) → (ask_mesh k limits name files).result ≡ Ok (as_saved m)

-- a mesh that is read of the file, in either format, is read again where its OBJ text is written
abbrev pub GivesReadable : ℕ → Limits → Bytes → Type 0
GivesReadable k limits name = (files : Files) (m : Soup) → (ask_mesh k limits name files).result ≡ Ok m → IsReadable k limits m

-- what is written is the text, in the format of its name, of a mesh that is read of its OBJ text
abbrev pub WritesReadable : ℕ → Limits → Action → Type 0
WritesReadable k limits (Ask name) = Unit {0}
WritesReadable k limits (Write name text) = (m : Soup) × (text ≡ mesh_text k name m.points m.triples m.labels) × IsReadable k limits m
WritesReadable k limits (Say line) = Unit {0}

-- the digits of a command, and 4 where there is none
abbrev pub digits_in : Option Command → ℕ
digits_in None = 4
digits_in (Some (CopyFile k from to)) = k
digits_in (Some (InsideFile k file p)) = k
digits_in (Some (RunScript k script)) = k

-- the mesh that a command copies is read again where its OBJ text is written
abbrev pub CopiesReadable : Limits → Option Command → Type 0
CopiesReadable limits None = Unit {0}
CopiesReadable limits (Some (CopyFile k from to)) = GivesReadable k limits from
CopiesReadable limits (Some (InsideFile k file p)) = Unit {0}
CopiesReadable limits (Some (RunScript k script)) = Unit {0}
