-- Triangle meshes: points and triples of point numbers, each point used, each edge with its reverse, each triple with a label.
use Rattle.std.specs.Prelude.{◌≡◌, ◌≢◌, ℕ, suc, ◌-◌, ◌<◌, ◌≤◌, ℤ, List, [], ◌∷◌, ◌++◌, true, Bool, cond, length, get_or, ◌==◌, ◌||◌, map, filter}
use Rattle.std.specs.List.{All, list_any}
use Rattle.chain_terms.specs.Chains.{all_edges, IsClosed}
use Rattle.chain_terms.specs.Sums.{upto}
use Rattle.mesh_terms.specs.Limits.{most_points, most_triangles}

-- the three point numbers of a triangle
abbrev pub Triple : Type 0
Triple = ℕ × ℕ × ℕ

-- an array of three numbers as a triple
abbrev pub triple_of : List ℕ → Triple
triple_of t = (get_or t 0 0, get_or t 1 0, get_or t 2 0)

abbrev pub triples_of : List (List ℕ) → List Triple
triples_of ts = map triple_of ts

-- three different point numbers
pub record HasThree (t : Triple) : Type 0 where
  pub ab : t.0 ≢ t.1
  pub bc : t.1 ≢ t.2
  pub ca : t.2 ≢ t.0

-- each point number is below n
pub record IsBelow (n : ℕ) (t : Triple) : Type 0 where
  pub a : t.0 < n
  pub b : t.1 < n
  pub c : t.2 < n

-- the triple has the point number
abbrev pub has : Triple → ℕ → Bool
has t v = (t.0 == v) || (t.1 == v) || (t.2 == v)

-- some triple has the point number
abbrev pub is_used : List Triple → ℕ → Bool
is_used ts v = list_any (λ t. has t v) ts

-- a mesh of so many points: each triple names three different points, each point is in some triple
pub record IsMesh (points : ℕ) (ts : List Triple) : Type 0 where
  pub three : All HasThree ts
  pub below : All (IsBelow points) ts
  pub used : (v : ℕ) → v < points → is_used ts v ≡ true
  pub few_points : points ≤ most_points
  pub few_triples : length ts ≤ most_triangles

-- a closed mesh
pub record IsAccepted (points : ℕ) (ts : List Triple) : Type 0 where
  pub mesh : IsMesh points ts
  pub closed : IsClosed (all_edges ts)

-- points, triples, the label of each triple, and the number of points that were dropped as unused
pub record Soup : Type 0 where
  pub points : List (List ℤ)
  pub triples : List Triple
  pub labels : List (List ℕ)
  pub unused : ℕ

-- points, triples, and the label of each triple
pub record Mesh : Type 0 where
  pub points : List (List ℤ)
  pub triples : List Triple
  pub labels : List (List ℕ)

-- the points from number v on that some triple uses
abbrev pub used_from : {X : Type 0} → List Triple → ℕ → List X → List X
used_from ts v [] = []
used_from ts v (p ∷ ps) = cond (is_used ts v) (p ∷ []) [] ++ used_from ts (suc v) ps

-- how many used points stand before point v
abbrev pub new_number : List Triple → ℕ → ℕ
new_number ts v = length (filter (is_used ts) (upto v))

abbrev pub renumbered : List Triple → List Triple
renumbered ts = map (λ t. (new_number ts t.0, new_number ts t.1, new_number ts t.2)) ts

-- points that no triple uses are dropped and counted; the others keep their order, and the triples their labels
abbrev pub soup_of : List (List ℤ) → List Triple → List (List ℕ) → Soup
soup_of points ts labels =
    let used = used_from ts 0 points in
    record { points = used; triples = renumbered ts; labels = labels; unused = length points - length used }
