-- Ranks and k-th places of the members that pass a test, and the twin rule on directed edges.
use Rattle.std.specs.Prelude.{◌≡◌, ℕ, zero, suc, ◌+◌, ◌<◌, List, [], ◌∷◌, Bool, true, cond, length, get_or}
use Rattle.chain_terms.specs.Chains.{is_edge, one_if}

-- how many of the first i members pass
abbrev pub rank : {X : Type 0} → (X → Bool) → List X → ℕ → ℕ
rank p [] i = 0
rank p (x ∷ xs) zero = 0
rank p (x ∷ xs) (suc i) = one_if (p x) + rank p xs i

-- the place of the k-th member that passes, from 0
abbrev pub nth : {X : Type 0} → (X → Bool) → List X → ℕ → ℕ
nth p [] k = 0
nth p (x ∷ xs) zero = cond (p x) 0 (suc (nth p xs 0))
nth p (x ∷ xs) (suc k) = suc (nth p xs (cond (p x) k (suc k)))

-- place i holds the k-th member that passes
pub record IsPlace {X : Type 0} (p : X → Bool) (xs : List X) (k i : ℕ) : Type 0 where
  pub within : i < length xs
  pub holds : (d : X) → p (get_or xs i d) ≡ true
  pub earlier : rank p xs i ≡ k

-- where the edge at a place starts
abbrev pub start : List (ℕ × ℕ) → ℕ → ℕ
start es h = (get_or es h (0, 0)).0

-- where it ends
abbrev pub finish : List (ℕ × ℕ) → ℕ → ℕ
finish es h = (get_or es h (0, 0)).1

-- the edges that run as the one at place h
abbrev pub runs_as : List (ℕ × ℕ) → ℕ → (ℕ × ℕ) → Bool
runs_as es h e = is_edge e (start es h) (finish es h)

-- and the other way
abbrev pub runs_against : List (ℕ × ℕ) → ℕ → (ℕ × ℕ) → Bool
runs_against es h e = is_edge e (finish es h) (start es h)

-- the k-th edge from a to b has the k-th from b to a as its twin
abbrev pub twin : List (ℕ × ℕ) → ℕ → ℕ
twin es h = nth (runs_against es h) es (rank (runs_as es h) es h)

-- t is a place, its edge runs back, and has the rank among its own that h has
pub record RunsBack (es : List (ℕ × ℕ)) (h t : ℕ) : Type 0 where
  pub within : t < length es
  pub from : start es t ≡ finish es h
  pub to : finish es t ≡ start es h
  pub same : rank (runs_as es t) es t ≡ rank (runs_as es h) es h
