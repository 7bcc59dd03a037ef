-- The cycles of a balanced list of edges, as a function: take the first edge, follow until none goes on, then do the same with the rest.
use Rattle.std.specs.Prelude.{◌≡◌, ℕ, zero, suc, List, [], ◌∷◌, cond, length, ◌==◌, count_by, Option, Some, None}

-- how many edges start at x
abbrev pub out : List (ℕ × ℕ) → ℕ → ℕ
out es x = count_by (λ e. e.0 == x) es

-- how many edges end at x
abbrev pub into : List (ℕ × ℕ) → ℕ → ℕ
into es x = count_by (λ e. e.1 == x) es

-- as many edges start as end at each vertex
abbrev pub Balanced : List (ℕ × ℕ) → Type 0
Balanced es = (x : ℕ) → out es x ≡ into es x

-- where the first edge from v goes
abbrev pub end_from : ℕ → List (ℕ × ℕ) → Option ℕ
end_from v [] = None
end_from v (e ∷ es) = cond (e.0 == v) (Some e.1) (end_from v es)

-- the list without that edge
abbrev pub without_from : ℕ → List (ℕ × ℕ) → List (ℕ × ℕ)
without_from v [] = []
without_from v (e ∷ es) = cond (e.0 == v) es (e ∷ without_from v es)

-- x where there is no end, else f of it
abbrev pub on_end : {X : Type 0} → Option ℕ → X → (ℕ → X) → X
on_end None x f = x
on_end (Some w) x f = f w

-- v in front of the vertices on the way
abbrev pub put_first : ℕ → (List ℕ × List (ℕ × ℕ)) → List ℕ × List (ℕ × ℕ)
put_first v r = (v ∷ r.0, r.1)

-- the vertices from v on until no edge goes on, and the edges that are left, within n steps
abbrev pub follow : ℕ → ℕ → List (ℕ × ℕ) → List ℕ × List (ℕ × ℕ)
follow zero v es = ([], es)
follow (suc n) v es = on_end (end_from v es) ([], es) (λ w. put_first v (follow n w (without_from v es)))

-- the first n cycles
abbrev pub cycles_within : ℕ → List (ℕ × ℕ) → List (List ℕ)
cycles_within zero es = []
cycles_within (suc n) [] = []
cycles_within (suc n) (e ∷ es) = let r = follow (length es) e.1 es in (e.0 ∷ r.0) ∷ cycles_within n r.1

-- all cycles, each a list of its vertices
abbrev pub cycles : List (ℕ × ℕ) → List (List ℕ)
cycles es = cycles_within (length es) es
