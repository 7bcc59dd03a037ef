-- The edges without a mark, and the loop that is followed through them.
use Rattle.std.specs.Prelude.{◌≡◌, ◌⊎◌, ℕ, ◌<◌, List, [], ◌∷◌, Bool, true, false, cond, length, get_or, set, Option, Some, None}
use Rattle.std.specs.List.{Contains}
use Rattle.chain_terms.specs.Cycles.{end_from, without_from, follow}
use Rattle.chain_terms.specs.Ranks.{start, finish}

-- the edges without a mark, in order
abbrev pub left : List (ℕ × ℕ) → List Bool → List (ℕ × ℕ)
left [] used = []
left (e ∷ es) [] = []
left (e ∷ es) (u ∷ used) = cond u (left es used) (e ∷ left es used)

-- the vertices from v on and the edges that are left, followed to the end
abbrev pub followed : ℕ → List (ℕ × ℕ) → List ℕ × List (ℕ × ℕ)
followed v es = follow (length es) v es

-- the first edge without a mark that starts at v, and what a mark leaves
pub record GoesOn (es : List (ℕ × ℕ)) (used : List Bool) (v place : ℕ) : Type 0 where
  pub within : place < length es
  pub from : start es place ≡ v
  pub goes : end_from v (left es used) ≡ Some (finish es place)
  pub rest : without_from v (left es used) ≡ left es (set used place true)

-- the place of such an edge; none where there is none
abbrev pub IsNext : List (ℕ × ℕ) → List Bool → ℕ → Option ℕ → Type 0
IsNext es used v None = end_from v (left es used) ≡ None
IsNext es used v (Some place) = GoesOn es used v place

-- the loop from the edge at a place, with the marks before and after
pub record IsLoopFrom (es : List (ℕ × ℕ)) (first : ℕ) (old new : List Bool) (vertices : List ℕ) : Type 0 where
  pub value : vertices ≡ start es first ∷ (followed (finish es first) (left es (set old first true))).0
  pub rest : left es new ≡ (followed (finish es first) (left es (set old first true))).1
  pub here : get_or new first false ≡ true
  pub others : (k : ℕ) → get_or old k false ≡ true → get_or new k false ≡ true
  pub marked : (k : ℕ) → get_or new k false ≡ true → (get_or old k false ≡ true) ⊎ Contains vertices (start es k)
