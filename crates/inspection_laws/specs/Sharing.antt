-- Edges of triangles between the first points at their places.
use Rattle.std.specs.Prelude.{◌≡◌, ℕ, zero, suc, ◌<◌, ◌≤◌, ℤ, List, [], ◌∷◌, ◌++◌, false, cond, nat_lt, length, get_or}
use Rattle.mesh_terms.specs.Meshes.{Mesh}
use Rattle.inspection_terms.specs.Inspected.{has_earlier}
use Rattle.inspection_terms.specs.Triangles.{corners_at, is_flat, place_at}

-- w is the first point at the place of point v
pub record IsFirst (points : List (List ℤ)) (v w : ℕ) : Type 0 where
  pub there : place_at points w ≡ place_at points v
  pub first : has_earlier points w ≡ false
  pub before : w ≤ v

-- for each point the first at its place
pub record AreFirsts (points : List (List ℤ)) (firsts : List ℕ) : Type 0 where
  pub full : length firsts ≡ length points
  pub each : (v : ℕ) → v < length points → IsFirst points v (get_or firsts v 0)

-- an edge from the lesser to the greater of two numbers
abbrev pub edge_between : ℕ → ℕ → ℕ × ℕ
edge_between a b = cond (nat_lt a b) (a, b) (b, a)

-- the edges between three
abbrev pub edges_between : ℕ → ℕ → ℕ → List (ℕ × ℕ)
edges_between a b c = edge_between a b ∷ edge_between b c ∷ edge_between c a ∷ []

-- those of a triangle, where each point stands for the first at its place; of a flat triangle none
abbrev pub full_edges : Mesh → List ℕ → ℕ → List (ℕ × ℕ)
full_edges m firsts t =
    cond (is_flat (corners_at m t)) []
    (edges_between (get_or firsts (get_or m.triples t (0, 0, 0)).0 0) (get_or firsts (get_or m.triples t (0, 0, 0)).1 0) (get_or firsts (get_or m.triples t (0, 0, 0)).2 0))

-- those of the first n triangles
abbrev pub edges_upto : Mesh → List ℕ → ℕ → List (ℕ × ℕ)
edges_upto m firsts zero = []
edges_upto m firsts (suc n) = edges_upto m firsts n ++ full_edges m firsts n
