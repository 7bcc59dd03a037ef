-- The edges of triangles that may have places inside them.
use Rattle.std.specs.Prelude.{◌≡◌, ◌⊎◌, ℕ, ◌<◌, ℤ, List, false, get_or, length}
use Rattle.std.specs.List.{All, Contains}
use Rattle.sheet_terms.specs.Cuts.{is_inside}

-- an edge as a list of two places
abbrev pub pair_of : List ℕ → ℕ × ℕ
pair_of e = (get_or e 0 0, get_or e 1 0)

-- an edge that runs up between places below n
pub record IsUpBelow (n : ℕ) (e : ℕ × ℕ) : Type 0 where
  pub up : e.0 < e.1
  pub below : e.1 < n

-- no place lies inside an edge
abbrev pub HasNone : List (List ℤ) → (ℕ × ℕ) → Type 0
HasNone points e = (v : ℕ) → v < length points → is_inside points e.0 e.1 v ≡ false

-- edges that run up between places; those that run up among some edges are in the list, or no place lies inside them
pub record AreLong (points : List (List ℤ)) (seen es : List (ℕ × ℕ)) : Type 0 where
  pub up : All (IsUpBelow (length points)) es
  pub complete : (e : ℕ × ℕ) → Contains seen e → e.0 < e.1 → HasNone points e ⊎ Contains es e
