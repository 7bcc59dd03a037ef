-- How many places holes add.
use Rattle.std.specs.Prelude.{ℕ, ◌+◌, List, [], ◌∷◌, length}

-- each its own places, its start again and the bridge's end
abbrev pub added : List (List ℕ) → ℕ
added [] = 0
added (hole ∷ holes) = length hole + 2 + added holes
