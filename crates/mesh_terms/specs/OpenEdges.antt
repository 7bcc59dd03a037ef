-- The least open edge of a chain: the pair that is reported where a mesh is not closed.
use Rattle.std.specs.Prelude.{ℕ, List, [], ◌∷◌, Bool, cond, ◌==◌, ◌&&◌, ◌||◌, nat_lt, filter, Option, Some, None}
use Rattle.chain_terms.specs.Chains.{dir}

-- the edges that run more often one way than back
abbrev pub open_edges : List (ℕ × ℕ) → List (ℕ × ℕ)
open_edges es = filter (λ e. nat_lt (dir es e.1 e.0) (dir es e.0 e.1)) es

-- by the start, then by the end
abbrev pub is_lesser : (ℕ × ℕ) → (ℕ × ℕ) → Bool
is_lesser e f = nat_lt e.0 f.0 || ((e.0 == f.0) && nat_lt e.1 f.1)

abbrev pub lesser : (ℕ × ℕ) → Option (ℕ × ℕ) → Option (ℕ × ℕ)
lesser e None = Some e
lesser e (Some f) = Some (cond (is_lesser e f) e f)

abbrev pub least_edge : List (ℕ × ℕ) → Option (ℕ × ℕ)
least_edge [] = None
least_edge (e ∷ es) = lesser e (least_edge es)

-- the least open edge; none where the chain is closed
abbrev pub open_pair : List (ℕ × ℕ) → Option (ℕ × ℕ)
open_pair es = least_edge (open_edges es)
