-- Chains: lists of directed edges, how often an edge occurs, the boundary, the edges of triangles.
use Rattle.std.specs.Prelude.{◌≡◌, ℕ, ◌+◌, ℤ, pos, ◌-ℤ◌, List, [], ◌∷◌, true, false, Bool, ◌==◌, ◌&&◌}
use Rattle.std.specs.List.{flat_map}

-- the edge runs from a to b
abbrev pub is_edge : (ℕ × ℕ) → ℕ → ℕ → Bool
is_edge e a b = (e.0 == a) && (e.1 == b)

abbrev pub one_if : Bool → ℕ
one_if true = 1
one_if false = 0

-- how many edges run from a to b
abbrev pub dir : List (ℕ × ℕ) → ℕ → ℕ → ℕ
dir [] a b = 0
dir (e ∷ es) a b = one_if (is_edge e a b) + dir es a b

-- each directed edge occurs as often as its reverse
abbrev pub IsClosed : List (ℕ × ℕ) → Type 0
IsClosed es = (a b : ℕ) → dir es a b ≡ dir es b a

-- how many more edges run from a to b than back
abbrev pub boundary : List (ℕ × ℕ) → ℕ → ℕ → ℤ
boundary es a b = pos (dir es a b) -ℤ pos (dir es b a)

-- the edges of a triangle, and of a list of triangles
abbrev pub edges : (ℕ × ℕ × ℕ) → List (ℕ × ℕ)
edges t = (t.0, t.1) ∷ (t.1, t.2) ∷ (t.2, t.0) ∷ []

abbrev pub all_edges : List (ℕ × ℕ × ℕ) → List (ℕ × ℕ)
all_edges ts = flat_map edges ts
