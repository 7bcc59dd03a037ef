-- Files that are written in pieces.
use Rattle.std.specs.Prelude.{◌≡◌, ℕ, ◌≤◌, ◌-◌, ◌⊎◌, Bool, IsTrue, [], length, Option, Some, if◌then◌else◌, bytes_eq}
use Rattle.std.specs.Option.{option_map}
use Rattle.mesh_terms.specs.Meshes.{Mesh}
use Rattle.run_terms.specs.Files.{Bytes, Files, IsPrefix, put}
use Rattle.play_terms.specs.Formats.{mesh_text}

-- the text of a mesh for a file of this name
abbrev pub text_in : ℕ → Bytes → Mesh → Bytes
text_in k name mesh = mesh_text k name mesh.points mesh.triples mesh.labels

-- the spare once so many bytes went to a file of this name: less by them where it is this file's, else as it was
abbrev pub spare_after : Bytes → ℕ → Option (Bytes × ℕ) → Option (Bytes × ℕ)
spare_after name n = option_map (λ p. (p.0, (if bytes_eq p.0 name then p.1 - n else p.1)))

-- the file, where it is told, holds a first part of the text, and the spare is what that left of it
pub record HoldsPart (tells : Bool) (file : Option Bytes) (name text : Bytes) (spare_old spare_new : Option (Bytes × ℕ)) : Type 0 where
  pub part : Bytes
  pub first : IsPrefix part text
  pub holds : IsTrue tells → file ≡ Some part
  pub spare : spare_new ≡ spare_after name (length part) spare_old

-- a first part of the text was written: the file holds it, or it has no bytes and all files are as they were; and the spare is what that left of it
pub record WritesPart (tells : Bool) (name text : Bytes) (old new : Files) (spare_old spare_new : Option (Bytes × ℕ)) : Type 0 where
  pub part : Bytes
  pub first : IsPrefix part text
  pub files : IsTrue tells → ((part ≡ []) × (new ≡ old)) ⊎ (new ≡ put name part old)
  pub spare : spare_new ≡ spare_after name (length part) spare_old

-- the spare is this file's, and the text fits its room
abbrev pub HasRoom : Option (Bytes × ℕ) → Bytes → Bytes → Type 0
HasRoom spare name text = (room : ℕ) × (spare ≡ Some (name, room)) × (length text ≤ room)
