-- Why a text is refused.
use Rattle.std.specs.Prelude.{ℕ}

-- what a limit counts
pub data Counted : Type 0 where
  FileBytes : Counted
  Points : Counted
  Triangles : Counted
  Halfedges : Counted

-- the first fault of a text: a line with the number of its kind, or a count that exceeds its limit
pub data Fault : Type 0 where
  Bad : (line : ℕ) → (kind : ℕ) → Fault
  Over : (what : Counted) → (seen : ℕ) → Fault
