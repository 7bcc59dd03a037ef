-- Coordinates of a text.
use Rattle.std.specs.Prelude.{ℕ, ℤ, List, if◌then◌else◌, Option, Some, None, Result, Ok, Err}
use Rattle.text_terms.specs.Numbers.{grid_number, is_on_grid}

-- 3 where it is no number, 4 where it is off the grid
abbrev pub on_grid : Option ℤ → Result ℤ ℕ
on_grid None = Err 3
on_grid (Some z) = if is_on_grid z then Ok z else Err 4

-- a coordinate under k digits, in grid steps
abbrev pub coordinate : ℕ → List ℕ → Result ℤ ℕ
coordinate k word = on_grid (grid_number k word)
