-- The suffix of a file's name.
use Rattle.std.specs.Prelude.{ℕ, ◌-◌, List, Bool, drop, length, bytes_eq}
use Rattle.std.specs.Str.{str_to_ascii_lowercase}

-- the name ends with the suffix of four bytes, ASCII case ignored
abbrev pub has_suffix : List ℕ → List ℕ → Bool
has_suffix suffix name = bytes_eq (str_to_ascii_lowercase (drop (length name - 4) name)) suffix
