-- The Euler characteristic from the numbers of points and triangles.
use Rattle.std.specs.Prelude.{ℕ, ◌*◌, ◌/◌, ℤ, pos, ◌+ℤ◌, ◌-ℤ◌}

-- vertices without edges and with faces; two triangles share an edge
abbrev pub euler_of : ℕ → ℕ → ℤ
euler_of points triangles = (pos points -ℤ pos (3 * triangles / 2)) +ℤ pos triangles
