-- Files in memory, the map that they are, and the free places for more.
use Rattle.std.specs.Prelude.{◌==◌, ◌||◌, ◌&&◌, ◌-◌, ◌+◌, ℕ, Bool, not, List, [], ◌∷◌, if◌then◌else◌, max, length}
use Rattle.std.specs.Prelude.{nat_lt, bytes_eq, is_some, unwrap_or}
use Rattle.std.specs.List.{find}
use Rattle.std.specs.Option.{option_map}
use Rattle.run_terms.specs.Files.{Bytes, Files, text_of}

-- a file in memory: its name, its bytes, and how many it may hold
pub record File : Type 0 where
  pub name : Bytes
  pub bytes : Bytes
  pub limit : ℕ

-- whether the file has this name
abbrev pub is_named : Bytes → File → Bool
is_named name file = bytes_eq file.name name

-- the files as a map; of two with one name the first counts
abbrev pub files_of : List File → Files
files_of files name = option_map (λ file. file.bytes) (find (is_named name) files)

-- the files with this one in the place of the first of its name, or at the end where there is none
abbrev pub placed : File → List File → List File
placed file [] = file ∷ []
placed file (other ∷ rest) = if is_named file.name other then file ∷ rest else other ∷ placed file rest

-- the files, the number of free places, and how many bytes each of these has room for
pub record Store : Type 0 where
  pub files : List File
  pub free : ℕ
  pub room : ℕ

-- whether a file has the name
abbrev pub has_file : Store → Bytes → Bool
has_file store name = is_some (find (is_named name) store.files)

-- how many bytes the file may hold: a new one what its free place has room for
abbrev pub limit_of : Store → Bytes → ℕ
limit_of store name = unwrap_or (option_map (λ file. file.limit) (find (is_named name) store.files)) store.room

-- whether a new file finds no place: none is free, or the name is longer than 255 bytes
abbrev pub is_unplaced : Store → Bytes → Bool
is_unplaced store name = not (has_file store name) && (store.free == 0 || nat_lt 255 (length name))

-- whether the file would be longer than it may be with so many bytes more
abbrev pub is_past : Store → Bytes → ℕ → Bool
is_past store name more = nat_lt (limit_of store name) (length (text_of (files_of store.files name)) + more)

-- the store where the file has these bytes; a new file takes a free place
abbrev pub written : Bytes → Bytes → Store → Store
written name bytes store = record store {
  files = placed (record { name = name; bytes = bytes; limit = limit_of store name }) store.files;
  free = if has_file store name then store.free else store.free - 1;
}

-- the store where the file has these bytes in a place of its own, with room for as many or for as many as a free place
abbrev pub given : Bytes → Bytes → Store → Store
given name bytes store = record store {
  files = placed (record { name = name; bytes = bytes; limit = max store.room (length bytes) }) store.files;
}
