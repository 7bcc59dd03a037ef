-- Calls of a shelf or a sink in memory, some of which are to fail.
use Rattle.std.specs.Prelude.{◌==◌, ◌^◌, ◌-◌, ◌+◌, ℕ, Bool, List, min, length}
use Rattle.std.specs.List.{list_any}
use Rattle.run_terms.specs.Files.{Bytes}

-- a count one higher, which stands still at the last value that 64 bits have
abbrev pub one_more : ℕ → ℕ
one_more count = min (count + 1) (2 ^ 64 - 1)

-- the numbers of the calls that are to fail, counted from 1, and how many calls there were
pub record Calls : Type 0 where
  pub fails : List ℕ
  pub made : ℕ

-- whether the next call is one that is to fail
abbrev pub is_listed : Calls → Bool
is_listed calls = list_any (λ n. n == one_more calls.made) calls.fails

-- one call later
abbrev pub next : Calls → Calls
next calls = record calls { made = one_more calls.made }

-- how many bytes one call takes of a piece
abbrev pub part_of : ℕ → Bytes → ℕ
part_of most piece = min most (length piece)
