-- Half-edges of triangles: round the triangle, and round their start.
use Rattle.std.specs.Prelude.{◌≡◌, ℕ, ◌+◌, ◌*◌, ◌/◌, ◌%◌, List}
use Rattle.chain_terms.specs.Permutations.{times}
use Rattle.chain_terms.specs.Ranks.{twin}

-- the next half-edge round the triangle
abbrev pub next_half : ℕ → ℕ
next_half h = h / 3 * 3 + (h % 3 + 1) % 3

-- and the one before
abbrev pub prev_half : ℕ → ℕ
prev_half h = h / 3 * 3 + (h % 3 + 2) % 3

-- the twin, then the next: the next half-edge that starts there
abbrev pub around : List (ℕ × ℕ) → ℕ → ℕ
around es h = next_half (twin es h)

-- that, n times over
abbrev pub around_times : List (ℕ × ℕ) → ℕ → ℕ → ℕ
around_times es n h = times (around es) n h

-- going around from h comes to g
abbrev pub SameFan : List (ℕ × ℕ) → ℕ → ℕ → Type 0
SameFan es h g = (n : ℕ) × (around_times es n h ≡ g)
