-- Odd functions of directed edges, and chains over which all of them have the same sums.
use Rattle.std.specs.Prelude.{◌≡◌, ℕ, ℤ, pos, ◌+ℤ◌, List, map}
use Rattle.chain_terms.specs.Sums.{total}

-- f turns its sign with the direction
pub record IsOdd (f : ℕ → ℕ → ℤ) : Type 0 where
  pub turns : (a b : ℕ) → f a b +ℤ f b a ≡ pos 0

-- f of an edge
abbrev pub along : (ℕ → ℕ → ℤ) → (ℕ × ℕ) → ℤ
along f e = f e.0 e.1

-- the edge the other way
abbrev pub turned_edge : (ℕ × ℕ) → ℕ × ℕ
turned_edge e = (e.1, e.0)

-- each edge of the chain the other way
abbrev pub backward : List (ℕ × ℕ) → List (ℕ × ℕ)
backward es = map turned_edge es

-- every odd function has the same sum over both chains
abbrev pub SameChain : List (ℕ × ℕ) → List (ℕ × ℕ) → Type 0
SameChain es ms = (f : ℕ → ℕ → ℤ) → IsOdd f → total (along f) es ≡ total (along f) ms
