-- Rings: lists of vertices in which the last place stands before the first.
use Rattle.std.specs.Prelude.{◌≡◌, ◌≢◌, ℕ, ◌+◌, ◌-◌, ◌%◌, ◌≤◌, ◌⊎◌, List, [], ◌∷◌, ◌++◌, Bool, cond, ◌==◌, length, get_or, take, drop}
use Rattle.std.specs.List.{All, list_any}
use Rattle.chain_terms.specs.Paths.{round_edges}

-- whether a vertex stands in the list
abbrev pub in_list : ℕ → List ℕ → Bool
in_list v r = list_any (λ x. x == v) r

-- how many different vertices stand in the list
abbrev pub different : List ℕ → ℕ
different [] = 0
different (x ∷ r) = cond (in_list x r) 0 1 + different r

-- the list without its i-th place
abbrev pub without_place : ℕ → List ℕ → List ℕ
without_place i r = take i r ++ drop (i + 1) r

-- the vertex at a place, counted round the ring
abbrev pub vertex_at : List ℕ → ℕ → ℕ
vertex_at r i = get_or r (i % length r) 0

-- the vertex at the place before
abbrev pub vertex_before : List ℕ → ℕ → ℕ
vertex_before r i = vertex_at r (i + (length r - 1))

-- and at the place after
abbrev pub vertex_after : List ℕ → ℕ → ℕ
vertex_after r i = vertex_at r (i + 1)

-- v stands in the list
abbrev pub In : ℕ → List ℕ → Type 0
In v [] = ⊥
In v (x ∷ xs) = (v ≡ x) ⊎ In v xs

-- three different vertices stand in the list
pub record Three (r : List ℕ) : Type 0 where
  pub a : ℕ
  pub b : ℕ
  pub c : ℕ
  pub a_in : In a r
  pub b_in : In b r
  pub c_in : In c r
  pub ab : a ≢ b
  pub bc : b ≢ c
  pub ca : c ≢ a

-- what every ring keeps: three places or more, different vertices at neighbouring places, three different vertices
pub record IsRing (r : List ℕ) : Type 0 where
  pub long : 3 ≤ length r
  pub apart : All (λ e. e.0 ≢ e.1) (round_edges r)
  pub three : Three r
