-- Edges by the places that they leave.
use Rattle.std.specs.Prelude.{◌≡◌, ℕ, suc, ◌==◌, ℤ, pos, ◌+ℤ◌, ◌-ℤ◌, ◌*ℤ◌, List, [], ◌∷◌, cond, filter, if◌then◌else◌, int_lt}
use Rattle.std.specs.List.Sorted.{IsNonDecreasingBy}
use Rattle.face_plane.specs.Planes.{turn}
use Rattle.plane_sheets.specs.declared.leaving.Leaving.{Leaving}

-- edges with their numbers, the first of which is k
abbrev pub leaving_from : ℕ → List (ℕ × ℕ) → List Leaving
leaving_from k [] = []
leaving_from k (e ∷ es) = record { from = e.0; to = e.1; number = k } ∷ leaving_from (suc k) es

-- the edges in the order of the places that they leave, and those that leave one place in their own
pub record AreSorted (es : List (ℕ × ℕ)) (order : List Leaving) : Type 0 where
  pub rise : IsNonDecreasingBy (λ l. l.from) order
  pub same : (s : ℕ) → filter (λ l. l.from == s) order ≡ filter (λ l. l.from == s) (leaving_from 0 es)

-- the number of the first edge to v, or n
abbrev pub first_number : ℕ → ℕ → List Leaving → ℕ
first_number n v [] = n
first_number n v (l ∷ ls) = cond (l.to == v) l.number (first_number n v ls)

-- below 0 where the way from s to n leads away from p
abbrev pub along : ℤ × ℤ → ℤ × ℤ → ℤ × ℤ → ℤ
along s p n = (p.0 -ℤ s.0) *ℤ (n.0 -ℤ s.0) +ℤ (p.1 -ℤ s.1) *ℤ (n.1 -ℤ s.1)

-- how far round s to the right from p: 0 in the right half, 1 straight ahead, 2 in the left half, 3 back at p
abbrev pub quarter_of : ℤ × ℤ → ℤ × ℤ → ℤ × ℤ → ℕ
quarter_of s p n = if int_lt (turn s p n) (pos 0) then 0 else if int_lt (pos 0) (turn s p n) then 2 else if int_lt (along s p n) (pos 0) then 1 else 3
