-- Coordinates that lie a part of the way from one to another.
use Rattle.std.specs.Prelude.{ℤ, pos, ◌-ℤ◌, ◌*ℤ◌, ◌≤ℤ◌, ◌<ℤ◌, ◌⊎◌, Bool, int_div}
use Rattle.std.specs.Ordering.{int_eq}

-- a part from none to the whole of what isn't 0, whatever its sign
abbrev pub IsPartOf : ℤ → ℤ → Type 0
IsPartOf part whole = ((pos 0 ≤ℤ part) × (part ≤ℤ whole) × (pos 0 <ℤ whole)) ⊎ ((whole ≤ℤ part) × (part ≤ℤ pos 0) × (whole <ℤ pos 0))

-- n parts of d of the way from p to q, rounded to 0
abbrev pub part_between : ℤ → ℤ → ℤ → ℤ → ℤ
part_between n d p q = int_div ((q -ℤ p) *ℤ n) d

-- nothing is rounded there
abbrev pub is_whole_between : ℤ → ℤ → ℤ → ℤ → Bool
is_whole_between n d p q = int_eq (part_between n d p q *ℤ d) ((q -ℤ p) *ℤ n)
