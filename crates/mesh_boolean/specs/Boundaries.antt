-- Chains with one boundary.
use Rattle.std.specs.Prelude.{◌≡◌, ℕ, List}
use Rattle.chain_terms.specs.Chains.{boundary}

-- each edge runs as many times more than back in the one as in the other
abbrev pub HaveOneBoundary : List (ℕ × ℕ) → List (ℕ × ℕ) → Type 0
HaveOneBoundary es ms = (a b : ℕ) → boundary es a b ≡ boundary ms a b
