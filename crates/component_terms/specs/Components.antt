-- Components: classes of vertices that edges join, whichever way they run, and how many classes there are.
use Rattle.std.specs.Prelude.{◌≡◌, ℕ, ◌+◌, ◌<◌, ◌≤◌, List, length, get_or}
use Rattle.std.specs.List.{All, Contains}
use Rattle.chain_terms.specs.Chains.{dir}

-- the vertex is itself, or an edge, either way, joins it to one that v is joined to
pub data IsJoined (es : List (ℕ × ℕ)) (v : ℕ) : ℕ → Type 0 where
  Here : IsJoined es v v
  Along : (a b : ℕ) → IsJoined es v a → 0 < dir es a b + dir es b a → IsJoined es v b

-- no vertex that is joined to v is less
abbrev pub IsLeast : List (ℕ × ℕ) → ℕ → Type 0
IsLeast es v = (w : ℕ) → IsJoined es v w → v ≤ w

-- the vertices below a number are in n classes: a list has the least vertex of each, in ascending order, and every vertex is joined to one of them
pub record HasComponents (points : ℕ) (es : List (ℕ × ℕ)) (n : ℕ) : Type 0 where
  pub least : List ℕ
  pub as_many : length least ≡ n
  pub ascending : (i j : ℕ) → i < j → j < length least → get_or least i 0 < get_or least j 0
  pub below : All (λ v. v < points) least
  pub no_lesser : All (IsLeast es) least
  pub every : (w : ℕ) → w < points → (v : ℕ) × Contains least v × IsJoined es v w
