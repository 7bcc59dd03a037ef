-- The first place at which a test passes, or the length.
use Rattle.std.proofs.Common.{◌≡◌, suc, ◌≤◌, Bool, true, false, cond, not, List, ◌∷◌, length, Some, None, unwrap_or, refl, ltb, arith}
use Rattle.std.specs.List.{position_or_len}
use Rattle.std.proofs.lemmas.List.Sums.{prefix_len-le-length}
use Rattle.std.proofs.lemmas.Grind.{common_steps}

-- a default of the length turns the first place, if any, into the place or the length
pub unwrap_or-position : {X : Type 0} (p : X → Bool) (xs : List X) →
    unwrap_or (cond (ltb (position_or_len p xs) (length xs)) (Some (position_or_len p xs)) None) (length xs) ≡ position_or_len p xs
unwrap_or-position p xs = grind (arith, common_steps, prefix_len-le-length (λ x. not (p x)) xs)

-- the place lies in the list or at its end
pub position_or_len-le : {X : Type 0} (p : X → Bool) (xs : List X) → position_or_len p xs ≤ length xs
position_or_len-le p xs = prefix_len-le-length (λ x. not (p x)) xs

-- an element that passes is the first place
pub position_or_len-here : {X : Type 0} (p : X → Bool) (x : X) (xs : List X) → p x ≡ true → position_or_len p (x ∷ xs) ≡ 0
position_or_len-here p x xs e = rw e refl

-- past an element that does not pass
pub position_or_len-past : {X : Type 0} (p : X → Bool) (x : X) (xs : List X) → p x ≡ false → position_or_len p (x ∷ xs) ≡ suc (position_or_len p xs)
position_or_len-past p x xs e = rw e (omega arith)
