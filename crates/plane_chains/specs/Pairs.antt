-- Pairs of edges of a chain that cross, and the points of the grid in which they do.
use Rattle.std.specs.Prelude.{◌≡◌, ◌<◌, true, ℕ, ℤ, List, [], ◌∷◌, Option, None, Some, Bool, ◌==◌, ◌||◌, filter, get_or, length, map}
use Rattle.std.specs.List.{flat_map}
use Rattle.chain_terms.specs.Sums.{upto}
use Rattle.face_plane.specs.Planes.{Plane}
use Rattle.sheet_terms.specs.Chains.{ChainEdge, cross, crossing_point}

-- two edges have an end in common
abbrev pub have_common : (ℕ × ℕ) → (ℕ × ℕ) → Bool
have_common d e = (d.0 == e.0) || (d.0 == e.1) || (d.1 == e.0) || (d.1 == e.1)

-- an edge by its place in a list
abbrev pub edge_at : List (ℕ × ℕ) → ℕ → ℕ × ℕ
edge_at es i = get_or es i (0, 0)

-- of some edges those that cross the edge at place i, each behind i
abbrev pub pairs_among : Plane → List (ℕ × ℕ) → ℕ → List ℕ → List (ℕ × ℕ)
pairs_among at es i js = map (λ j. (i, j)) (filter (λ j. cross at (edge_at es i) (edge_at es j)) js)

-- all pairs of edges that cross, by their places, each both ways round, in order
abbrev pub crossing_pairs : Plane → List (ℕ × ℕ) → List (ℕ × ℕ)
crossing_pairs at es = flat_map (λ i. pairs_among at es i (upto (length es))) (upto (length es))

-- two edges by their places that cross
pub record IsCrossingPair (at : Plane) (es : List (ℕ × ℕ)) (p : ℕ × ℕ) : Type 0 where
  pub one : p.0 < length es
  pub other : p.1 < length es
  pub crosses : cross at (edge_at es p.0) (edge_at es p.1) ≡ true

-- what is there, as a list
abbrev pub option_list : {X : Type 0} → Option X → List X
option_list None = []
option_list (Some x) = x ∷ []

-- the points of the grid in which edges of a chain cross
abbrev pub grid_crossings : List (List ℤ) → Plane → List ChainEdge → List (List ℤ)
grid_crossings points at cs = flat_map (λ c. flat_map (λ d. crossing_point points at c.edge d.edge) cs) cs
