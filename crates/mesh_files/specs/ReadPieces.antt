-- Files that are read in pieces.
use Rattle.std.specs.Prelude.{◌≡◌, ℕ, ◌+◌, ◌≤◌, ◌++◌, take, drop, Option, Some}
use Rattle.mesh_terms.specs.Limits.{Limits}
use Rattle.run_terms.specs.Files.{Bytes, length_of}
use Rattle.mb_outside.specs.declared.shelf.Shelf.{Ghosts as OfShelf}

-- after the first bytes of a buffer the next ones are those of the text
abbrev pub ReadsOn : Bytes → ℕ → ℕ → Bytes → Bytes → Type 0
ReadsOn text have count old new = take (have + count) new ≡ take have old ++ take count (drop have text)

-- the file is there, so long, and not too long
abbrev pub IsSized : Limits → Option Bytes → ℕ → Type 0
IsSized limits file size = (length_of file ≡ Some size) × (size ≤ limits.file_bytes)

-- a read left the shelf as it was, but for its counts of faults in reading and of short reads
pub record IsLeftByRead {S : Type 0} (s : OfShelf S) (old new : S) : Type 0 where
  pub told : s.tells new ≡ s.tells old
  pub files : s.files new ≡ s.files old
  pub stated : s.stated new ≡ s.stated old
  pub writes : s.write_faults new ≡ s.write_faults old
  pub spare : s.spare new ≡ s.spare old
