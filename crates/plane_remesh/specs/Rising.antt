-- Edges that lead to greater places.
use Rattle.std.specs.Prelude.{ℕ, List, Bool, cond, filter, map, nat_lt}

-- an edge, or the same turned
abbrev pub way : Bool → (ℕ × ℕ) → ℕ × ℕ
way turned e = cond turned (e.1, e.0) e

-- of edges, or of all turned, those that lead to a greater place
abbrev pub rising : Bool → List (ℕ × ℕ) → List (ℕ × ℕ)
rising turned es = filter (λ e. nat_lt e.0 e.1) (map (way turned) es)
