-- Stars: for each vertex the half-edges that start there.
use Rattle.std.specs.Prelude.{◌/◌, ℕ, List, Bool, false, ◌==◌, filter, get_or, length, map}
use Rattle.chain_terms.specs.Ranks.{start}
use Rattle.chain_terms.specs.Sums.{upto}

-- the edges that start at the vertex, by their places
abbrev pub star_of : List (ℕ × ℕ) → ℕ → List ℕ
star_of es v = filter (λ h. start es h == v) (upto (length es))

-- the same for each of so many vertices
abbrev pub stars_of : ℕ → List (ℕ × ℕ) → List (List ℕ)
stars_of vertices es = map (star_of es) (upto vertices)

-- the triangle of the half-edge has a mark
abbrev pub is_left : List Bool → ℕ → Bool
is_left left h = get_or left (h / 3) false
