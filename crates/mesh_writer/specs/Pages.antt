-- A file of a shelf apart from the others.
use Rattle.std.specs.Prelude.{ℕ, Option, Some, None, if◌then◌else◌, bytes_eq}
use Rattle.run_terms.specs.Files.{Bytes, Files}

-- the files other than this one
abbrev pub without : Bytes → Files → Files
without name files n = if bytes_eq n name then None else files n

-- the number of the spare, where it is this file's
abbrev pub room_of : Bytes → Option (Bytes × ℕ) → Option ℕ
room_of name None = None
room_of name (Some p) = if bytes_eq p.0 name then Some p.1 else None

-- the spare, where it is another file's
abbrev pub spare_beside : Bytes → Option (Bytes × ℕ) → Option (Bytes × ℕ)
spare_beside name None = None
spare_beside name (Some p) = if bytes_eq p.0 name then None else Some p
