-- Numbers of crossings as sums of shadows one level below, over any shadows.
use Rattle.std.specs.Prelude.{ℕ, ℤ, neg_ℤ, ◌-ℤ◌, List}
use Rattle.chain_terms.specs.Sums.{total}
use Rattle.chain_terms.specs.Chains.{edges}
use Rattle.chain_terms.specs.Odd.{along}

-- the number of the edge from a to b with the triangle g: from the shadows of its ends, and of itself on the edges of g
abbrev pub crossing : (ℕ → (ℕ × ℕ × ℕ) → ℤ) → (ℕ → ℕ → ℕ → ℕ → ℤ) → ℕ → ℕ → (ℕ × ℕ × ℕ) → ℤ
crossing ends sides a b g = ends b g -ℤ ends a g -ℤ total (along (sides a b)) (edges g)

-- the winding number at a vertex: minus the sum of its shadows on the triangles
abbrev pub winding : (ℕ → (ℕ × ℕ × ℕ) → ℤ) → ℕ → List (ℕ × ℕ × ℕ) → ℤ
winding ends p gs = neg_ℤ (total (ends p) gs)
