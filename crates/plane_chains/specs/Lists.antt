-- Lists that lie one after the other in one, told by where each ends.
use Rattle.std.specs.Prelude.{ℕ, ◌-◌, List, [], ◌∷◌, Bool, ◌&&◌, nat_le, drop, take}

-- where the last list ends; the one before the first ends at b
abbrev pub last_end : ℕ → List ℕ → ℕ
last_end b [] = b
last_end b (e ∷ ends) = last_end e ends

-- the lists that end there, the first of which begins at b
abbrev pub pieces : {X : Type 0} → ℕ → List ℕ → List X → List (List X)
pieces b [] xs = []
pieces b (e ∷ ends) xs = take (e - b) (drop b xs) ∷ pieces e ends xs

-- those lists, and what lies behind the last one
abbrev pub lists_of : {X : Type 0} → List ℕ → List X → List (List X) × List X
lists_of ends xs = (pieces 0 ends xs, drop (last_end 0 ends) xs)

-- no list ends before it begins, or after n
abbrev pub are_ends : ℕ → List ℕ → ℕ → Bool
are_ends b [] n = nat_le b n
are_ends b (e ∷ ends) n = nat_le b e && are_ends e ends n
