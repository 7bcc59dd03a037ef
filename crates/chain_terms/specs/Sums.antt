-- Sums of whole numbers over a list, and the numbers below a number.
use Rattle.std.specs.Prelude.{ℕ, zero, suc, ℤ, pos, ◌+ℤ◌, List, [], ◌∷◌}

-- the sum of f over the list
abbrev pub total : {X : Type 0} → (X → ℤ) → List X → ℤ
total f [] = pos 0
total f (x ∷ xs) = f x +ℤ total f xs

-- k, .., k + n - 1
abbrev pub up_from : ℕ → ℕ → List ℕ
up_from k zero = []
up_from k (suc n) = k ∷ up_from (suc k) n

-- 0, .., n - 1
abbrev pub upto : ℕ → List ℕ
upto n = up_from 0 n
