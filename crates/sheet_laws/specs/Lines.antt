-- Chains of edges as they lie in space, whatever places cut them: functions of edges that add up along lines have one sum over them.
use Rattle.std.specs.Prelude.{◌≡◌, ℕ, ℤ, ◌+ℤ◌, List, true}
use Rattle.chain_terms.specs.Odd.{IsOdd, along}
use Rattle.chain_terms.specs.Sums.{total}
use Rattle.face_plane.specs.Planes.{point_at}
use Rattle.sheet_terms.specs.Cuts.{are_in_line}

-- three places lie on a line
abbrev pub LieInLine : List (List ℤ) → ℕ → ℕ → ℕ → Type 0
LieInLine points a b c = are_in_line (point_at points a) (point_at points b) (point_at points c) ≡ true

-- f turns its sign with the direction, and adds up along lines
pub record AddsAlongLines (points : List (List ℤ)) (f : ℕ → ℕ → ℤ) : Type 0 where
  pub odd : IsOdd f
  pub adds : (a b c : ℕ) → LieInLine points a b c → f a b +ℤ f b c ≡ f a c

-- every such function has the same sum over both: the chains are one once their edges are cut where places lie on them
abbrev pub SameOnLines : List (List ℤ) → List (ℕ × ℕ) → List (ℕ × ℕ) → Type 0
SameOnLines points es ms = (f : ℕ → ℕ → ℤ) → AddsAlongLines points f → total (along f) es ≡ total (along f) ms
