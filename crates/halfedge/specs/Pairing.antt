-- Half-edges with their numbers, as lists that are sorted.
use Rattle.std.specs.Prelude.{ℕ, suc, List, [], ◌∷◌, get_or, map}
use Rattle.std.specs.List.Sorted.{IsPermutation, IsSorted}
use Rattle.std.specs.Ordering.{nat_cmp, ordering_then}
use Rattle.std.specs.declared.cmp.Ordering.{Ordering}

-- a start, an end and a number
abbrev pub Half : Type 0
Half = ℕ × ℕ × ℕ

-- the edges with their places, counted from k
abbrev pub numbered : ℕ → List (ℕ × ℕ) → List Half
numbered k [] = []
numbered k (e ∷ es) = (e.0, e.1, k) ∷ numbered (suc k) es

-- the other way round
abbrev pub turned : Half → Half
turned e = (e.1, e.0, e.2)

-- by the start, then by the end, then by the number
abbrev pub half_cmp : Half → Half → Ordering
half_cmp e f = ordering_then (ordering_then (nat_cmp e.0 f.0) (nat_cmp e.1 f.1)) (nat_cmp e.2 f.2)

-- the half-edges of a list, sorted
pub record IsSortOf (edges sorted : List Half) : Type 0 where
  pub moved : IsPermutation edges sorted
  pub up : IsSorted half_cmp sorted

-- without the number
abbrev pub ends : Half → ℕ × ℕ
ends e = (e.0, e.1)

-- the same of each
abbrev pub ends_of : List Half → List (ℕ × ℕ)
ends_of es = map ends es

-- the half-edge at a place of a list
abbrev pub half_at : List Half → ℕ → ℕ
half_at es i = (get_or es i (0, 0, 0)).2
