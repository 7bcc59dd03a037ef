-- A point among points: the first equal one, or none.
use Rattle.std.proofs.Common.{◌≡◌, ℕ, ◌+◌, ◌≤◌, Bool, true, false, cond, List, [], ◌∷◌, ◌++◌, length, get_or, Some, None, Ok, refl, arith, ℤ, pos, nat_lt, ltb, position}
use Rattle.std.specs.List.{list_any, position_or_len}
use Rattle.std.proofs.lemmas.Bool.Decides.{nat_tests}
use Rattle.indexmap.specs.IndexSet.{insert_key}
use Rattle.mesh_terms.specs.Limits.{Limits}
use Rattle.format_terms.specs.Stl.{same_point, welded}
use Rattle.grid_number.proofs.Positions.{position_or_len-here, position_or_len-past, position_or_len-le}

-- no place is no element
pub none_there : {X : Type 0} (p : X → Bool) (xs : List X) → position_or_len p xs ≡ length xs → list_any p xs ≡ false
none_there p [] e = refl
none_there p (x ∷ xs) e = by_test (p x) refl (none_there p xs) where
  by_test : (b : Bool) → p x ≡ b → (position_or_len p xs ≡ length xs → list_any p xs ≡ false) → list_any p (x ∷ xs) ≡ false
  by_test true t h = absurd (omega (arith, e, position_or_len-here p x xs t))
  by_test false t h = rw t (h (omega (arith, e, position_or_len-past p x xs t)))

-- where no place is found, the place is the length
pub at_length : {X : Type 0} (p : X → Bool) (xs : List X) → position p xs ≡ None → position_or_len p xs ≡ length xs
at_length p xs none = by_test (ltb (position_or_len p xs) (length xs)) refl none where
  by_test : (b : Bool) → ltb (position_or_len p xs) (length xs) ≡ b → cond b (Some (position_or_len p xs)) None ≡ None → position_or_len p xs ≡ length xs
  by_test true t h = absurd (cc)
  by_test false t h = let more : length xs ≤ position_or_len p xs = grind (arith, nat_tests, t) in omega (arith, more, position_or_len-le p xs)

-- a new point goes last
pub welded_new : (limits : Limits) (points new : List (List ℤ)) (p : List ℤ) (n : ℕ) → position (same_point p) points ≡ None → n ≡ length points
    → nat_lt limits.points (n + 1) ≡ false → new ≡ insert_key same_point points p → welded limits points p ≡ Ok (n, new)
welded_new limits points new p n none count few added =
    let place = at_length (same_point p) points none in
    let last = none_there (same_point p) points place in
    let test : nat_lt (position_or_len (same_point p) points) (length points) ≡ false = rw place (grind (arith, nat_tests)) in
    let room : nat_lt limits.points (length points + 1) ≡ false = rw (← count) few in
    rw (test, room, added, last, place, count) refl

-- two numbers and a third
pub two_and : (ns : List ℤ) (z : ℤ) → length ns ≡ 2 → ns ++ z ∷ [] ≡ get_or ns 0 (pos 0) ∷ get_or ns 1 (pos 0) ∷ z ∷ []
two_and [] z e = absurd (cc)
two_and (a ∷ []) z e = absurd (cc)
two_and (a ∷ b ∷ []) z e = refl
two_and (a ∷ b ∷ c ∷ ns) z e = absurd (omega (arith, e))
