-- Numbers given to the half-edges of a fan, and to fans in the order of their starts.
use Rattle.std.specs.Prelude.{◌≡◌, ℕ, ◌<◌, ◌⊎◌, List, length, get_or, map}
use Rattle.std.specs.List.Sorted.{IsPermutation, IsSorted}
use Rattle.std.specs.Ordering.{nat_cmp, ordering_then}
use Rattle.std.specs.declared.cmp.Ordering.{Ordering}
use Rattle.mesh_terms.specs.Halves.{around, SameFan}
use Rattle.halfedge.specs.Pairing.{numbered}

-- the number that stands for none
abbrev pub no_fan : ℕ
no_fan = 4294967295

-- each half-edge behind its start
abbrev pub by_starts : List (ℕ × ℕ) → List (ℕ × ℕ)
by_starts es = map (λ e. (e.0, e.2)) (numbered 0 es)

-- by the first, then by the second
abbrev pub pair_cmp : ℕ × ℕ → ℕ × ℕ → Ordering
pair_cmp e f = ordering_then (nat_cmp e.0 f.0) (nat_cmp e.1 f.1)

-- the half-edges by their starts, then by their numbers
pub record AreInOrder (es order : List (ℕ × ℕ)) : Type 0 where
  pub moved : IsPermutation (by_starts es) order
  pub up : IsSorted pair_cmp order

-- the half-edge at a place of that order
abbrev pub ordered_at : List (ℕ × ℕ) → ℕ → ℕ
ordered_at order i = (get_or order i (0, 0)).1

-- going around keeps the number
abbrev pub AreKeptAround : List (ℕ × ℕ) → List ℕ → Type 0
AreKeptAround es of = (x : ℕ) → x < length es → get_or of (around es x) 0 ≡ get_or of x 0

-- the fan of h has got the number, and the others have kept theirs
pub record IsFanNumbered (es : List (ℕ × ℕ)) (h number : ℕ) (old new : List ℕ) : Type 0 where
  pub full : length new ≡ length es
  pub here : get_or new h 0 ≡ number
  pub kept_around : AreKeptAround es new
  pub each : (x : ℕ) → x < length es → ((get_or new x 0 ≡ number) × SameFan es h x) ⊎ (get_or new x 0 ≡ get_or old x 0)
