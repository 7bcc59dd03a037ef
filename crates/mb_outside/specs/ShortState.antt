-- What a shelf holds that states a size of its one file.
use Rattle.std.specs.Prelude.{◌==◌, ◌&&◌, ◌-◌, ℕ, Bool, not, [], Option, Some, None, if◌then◌else◌, bytes_eq, length, min, nat_lt}
use Rattle.run_terms.specs.Files.{Bytes, size_in}
use Rattle.mb_outside.specs.Calls.{one_more}

-- the file, the size that is stated of it, the size that was stated last, how many reads gave nothing below that, and how often a write failed
pub record ShortState : Type 0 where
  pub name : Bytes
  pub bytes : Bytes
  pub size : ℕ
  pub stated : ℕ
  pub short_reads : ℕ
  pub write_faults : ℕ

-- a shelf of which nothing was asked yet
abbrev pub short_shelf : (name bytes : Bytes) → ℕ → ShortState
short_shelf name bytes size = record { name = name; bytes = bytes; size = size; stated = 0; short_reads = 0; write_faults = 0 }

-- the size that is stated of a name
abbrev pub stated_of : ShortState → Bytes → Option ℕ
stated_of shelf name = if bytes_eq name shelf.name then Some shelf.size else None

-- the bytes that a name has
abbrev pub text_at : ShortState → Bytes → Bytes
text_at shelf name = if bytes_eq name shelf.name then shelf.bytes else []

-- a size was stated
abbrev pub after_size : Bytes → ShortState → ShortState
after_size name shelf = record shelf { stated = size_in (stated_of shelf name) }

-- whether a read into so much space gives nothing at a place below the size that was stated
abbrev pub is_short : Bytes → ℕ → Bytes → ShortState → Bool
is_short name at into shelf =
    min (length into) (length (text_at shelf name) - at) == 0 && not (length into == 0) && nat_lt at shelf.stated

-- a read was made
abbrev pub after_read : Bytes → ℕ → Bytes → ShortState → ShortState
after_read name at into shelf = record shelf { short_reads = if is_short name at into shelf then one_more shelf.short_reads else shelf.short_reads }
