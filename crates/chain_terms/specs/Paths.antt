-- Paths and rounds: the edges along a list of vertices, and once round it.
use Rattle.std.specs.Prelude.{ℕ, List, [], ◌∷◌, ◌++◌}

-- the edges from x along the vertices that follow
abbrev pub path : ℕ → List ℕ → List (ℕ × ℕ)
path x [] = []
path x (y ∷ r) = (x, y) ∷ path y r

-- where that path ends
abbrev pub last_of : ℕ → List ℕ → ℕ
last_of x [] = x
last_of x (y ∷ r) = last_of y r

-- the edges once round
abbrev pub round_edges : List ℕ → List (ℕ × ℕ)
round_edges [] = []
round_edges (x ∷ r) = path x r ++ (last_of x r, x) ∷ []
