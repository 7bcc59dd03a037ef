-- Vectors as the code keeps them.
use Rattle.std.specs.Prelude.{ℕ, ℤ, pos, List, slice_index_or}
use Rattle.plane_laws.specs.Decisions.{Vector}

-- the number at a place
abbrev pub number_on : List ℤ → ℕ → ℤ
number_on xs i = slice_index_or xs i (pos 0)

-- the vector of three numbers
abbrev pub vector : List ℤ → Vector
vector xs = record { x = number_on xs 0; y = number_on xs 1; z = number_on xs 2 }
