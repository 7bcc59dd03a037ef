-- Where the places of vertices are.
use Rattle.std.proofs.Common.{ℕ, suc, ◌+◌, ◌≤◌, not, cond, Bool, true, false, List, [], ◌∷◌, length, get_or, map, arith}
use Rattle.std.specs.List.{All, position_or_len}
use Rattle.std.proofs.lemmas.List.Elements.{All-map}
use Rattle.chain_terms.specs.Sums.{upto}

-- the place of the first that passes is at most the end
here_or_past : (b : Bool) (m n : ℕ) → m ≤ n → cond (not b) (1 + m) 0 ≤ suc n
here_or_past true m n h = omega arith
here_or_past false m n h = omega (arith, h)

pub place_within : {X : Type 0} (p : X → Bool) (xs : List X) → position_or_len p xs ≤ length xs
place_within p [] = omega arith
place_within p (x ∷ xs) = here_or_past (p x) (position_or_len p xs) (length xs) (place_within p xs)

pub places_within : {X : Type 0} (p : ℕ → X → Bool) (xs : List X) (n most : ℕ) → length xs ≤ most → All (λ k. k ≤ most) (map (λ v. position_or_len (p v) xs) (upto n))
places_within p xs n most few = All-map (λ k. k ≤ most) (λ v. position_or_len (p v) xs) (upto n) (λ k d low. omega (arith, place_within (p (get_or (upto n) k d)) xs, few))
