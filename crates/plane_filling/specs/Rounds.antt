-- Rounds taken from a place on.
use Rattle.std.specs.Prelude.{ℕ, List, [], ◌∷◌, ◌++◌}
use Rattle.chain_terms.specs.Paths.{path, last_of}

-- the edges from x along the places that follow, and back to the first
abbrev pub round_from : ℕ → ℕ → List ℕ → List (ℕ × ℕ)
round_from first x r = path x r ++ (last_of x r, first) ∷ []
