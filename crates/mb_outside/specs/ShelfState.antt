-- What a shelf in memory holds, and where its calls fail.
use Rattle.std.specs.Prelude.{◌||◌, ◌-◌, ℕ, Bool, List, [], min, length}
use Rattle.run_terms.specs.Files.{Bytes, text_of}
use Rattle.mb_outside.specs.Calls.{Calls, is_listed, next, one_more, part_of}
use Rattle.mb_outside.specs.Store.{Store, files_of, is_past, is_unplaced}

-- a shelf's files and places, how many bytes one call moves at most, its calls and its faults
pub record ShelfState : Type 0 where
  pub store : Store
  pub most : ℕ
  pub calls : Calls
  pub read_faults : ℕ
  pub write_faults : ℕ

-- a shelf without files, none of whose calls was made
abbrev pub empty_shelf : (places room most : ℕ) → List ℕ → ShelfState
empty_shelf places room most fails = record {
  store = record { files = []; free = places; room = room };
  most = most;
  calls = record { fails = fails; made = 0 };
  read_faults = 0;
  write_faults = 0;
}

-- a call later, with these files and places
abbrev pub holding : Store → ShelfState → ShelfState
holding store shelf = record shelf { store = store; calls = next shelf.calls }

-- a call later that was a read and failed
abbrev pub with_read_fault : ShelfState → ShelfState
with_read_fault shelf = record shelf { calls = next shelf.calls; read_faults = one_more shelf.read_faults }

-- a call later that was a write and failed
abbrev pub with_write_fault : ShelfState → ShelfState
with_write_fault shelf = record shelf { calls = next shelf.calls; write_faults = one_more shelf.write_faults }

-- whether a begin fails: its call is listed, or the new file finds no place
abbrev pub is_begin_refused : ShelfState → Bytes → Bool
is_begin_refused shelf name = is_listed shelf.calls || is_unplaced shelf.store name

-- whether an append fails: its call is listed, the new file finds no place, or the file would be longer than it may be
abbrev pub is_append_refused : ShelfState → Bytes → Bytes → Bool
is_append_refused shelf name piece =
    is_listed shelf.calls || is_unplaced shelf.store name || is_past shelf.store name (part_of shelf.most piece)

-- how many bytes one read gives: no more than one call moves, than there is space for, and than the file has from there
abbrev pub read_of : ShelfState → Bytes → ℕ → Bytes → ℕ
read_of shelf name at into = min shelf.most (min (length into) (length (text_of (files_of shelf.store.files name)) - at))
