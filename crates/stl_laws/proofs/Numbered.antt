-- The number of a point among welded points, and that it stays when more are welded.
use Rattle.std.proofs.Common.{◌≡◌, suc, inl, inr, ◌<◌, ◌≤◌, if◌then◌else◌, Bool, true, false, List, [], ◌∷◌, ◌++◌, length, ℤ, refl, sym, ap, ◌∙◌, arith, append_assoc, append-nil, length-append, nat_lt}
use Rattle.std.specs.Cmp.{IsEquivalence}
use Rattle.std.specs.List.{list_any, position_or_len}
use Rattle.std.proofs.lemmas.Bool.{cases_Bool}
use Rattle.std.proofs.lemmas.Bool.Decides.{nat_tests}
use Rattle.std.proofs.lemmas.Cmp.{int_eq_equiv, lists_equiv}
use Rattle.format_terms.specs.Stl.{same_point}
use Rattle.format_laws.specs.Welding.{placed}

-- points are the same where they are equal
pub point_laws : IsEquivalence same_point
point_laws = lists_equiv int_eq_equiv

-- the first member that passes: here, or behind
here : (p : List ℤ → Bool) (x : List ℤ) (xs : List (List ℤ)) → p x ≡ true → position_or_len p (x ∷ xs) ≡ 0
here p x xs e = rw e refl

behind : (p : List ℤ → Bool) (x : List ℤ) (xs : List (List ℤ)) → p x ≡ false → position_or_len p (x ∷ xs) ≡ suc (position_or_len p xs)
behind p x xs e = rw e (omega arith)

-- it is no farther than behind all
at_most : (p : List ℤ → Bool) (xs : List (List ℤ)) → position_or_len p xs ≤ length xs
at_most p [] = omega arith
at_most p (x ∷ xs) = elim (cases_Bool (p x)) as (λ _. position_or_len p (x ∷ xs) ≤ length (x ∷ xs)) [
  | inl y ↦ omega (arith, here p x xs y)
  | inr n ↦ omega (arith, behind p x xs n, at_most p xs)
]

-- a member that passes stays the first one when more come behind
stays : (p : List ℤ → Bool) (xs ys : List (List ℤ)) → position_or_len p xs < length xs → position_or_len p (xs ++ ys) ≡ position_or_len p xs
stays p [] ys low = absurd (omega (arith, low))
stays p (x ∷ xs) ys low = elim (cases_Bool (p x)) as (λ _. position_or_len p ((x ∷ xs) ++ ys) ≡ position_or_len p (x ∷ xs)) [
  | inl y ↦ here p x (xs ++ ys) y ∙ sym (here p x xs y)
  | inr n ↦ behind p x (xs ++ ys) n ∙ ap suc (stays p xs ys (omega (arith, low, behind p x xs n))) ∙ sym (behind p x xs n)
]

-- and where none passes, the next one that does is the first
comes : (p : List ℤ → Bool) (xs : List (List ℤ)) (z : List ℤ) (ys : List (List ℤ)) → length xs ≤ position_or_len p xs → p z ≡ true →
    position_or_len p (xs ++ z ∷ ys) ≡ position_or_len p xs
comes p [] z ys none passes = here p z ys passes
comes p (x ∷ xs) z ys none passes = elim (cases_Bool (p x)) as (λ _. position_or_len p ((x ∷ xs) ++ z ∷ ys) ≡ position_or_len p (x ∷ xs)) [
  | inl y ↦ absurd (omega (arith, none, here p x xs y))
  | inr n ↦ behind p x (xs ++ z ∷ ys) n ∙ ap suc (comes p xs z ys (omega (arith, none, behind p x xs n)) passes) ∙ sym (behind p x xs n)
]

-- more points behind some
pub record IsLonger (xs ys : List (List ℤ)) : Type 0 where
  pub more : List (List ℤ)
  pub are : ys ≡ xs ++ more

pub longer_self : (xs : List (List ℤ)) → IsLonger xs xs
longer_self xs = record { more = []; are = sym (append-nil xs) }

pub longer_still : (xs ys zs : List (List ℤ)) → IsLonger xs ys → IsLonger ys zs → IsLonger xs zs
longer_still xs ys zs a b = record { more = a.more ++ b.more; are = b.are ∙ ap (λ l. l ++ b.more) a.are ∙ append_assoc xs a.more b.more }

-- they are no fewer
pub is_longer : (xs ys : List (List ℤ)) → IsLonger xs ys → length xs ≤ length ys
is_longer xs ys l = omega (arith, ap length l.are, length-append xs l.more)

-- where no place is found no member passes
pub none_there : (p : List ℤ → Bool) (xs : List (List ℤ)) → length xs ≤ position_or_len p xs → list_any p xs ≡ false
none_there p [] e = refl
none_there p (x ∷ xs) e = elim (cases_Bool (p x)) as (λ _. list_any p (x ∷ xs) ≡ false) [
  | inl y ↦ absurd (omega (arith, e, here p x xs y))
  | inr n ↦ rw n (none_there p xs (omega (arith, e, behind p x xs n)))
]

-- the points with one more
pub longer_placed : (xs : List (List ℤ)) (p : List ℤ) → IsLonger xs (placed xs p).1
longer_placed xs p = by (nat_lt (position_or_len (same_point p) xs) (length xs)) where
  by : (b : Bool) → IsLonger xs (if b then xs else xs ++ p ∷ [])
  by true = longer_self xs
  by false = record { more = p ∷ []; are = refl }

-- however many come behind, a point keeps the number that it got
pub number_stays : (xs : List (List ℤ)) (p : List ℤ) (qs : List (List ℤ)) → IsLonger (placed xs p).1 qs → position_or_len (same_point p) qs ≡ (placed xs p).0
number_stays xs p qs longer = by (nat_lt (position_or_len (same_point p) xs) (length xs)) refl longer where
  by : (b : Bool) → nat_lt (position_or_len (same_point p) xs) (length xs) ≡ b → IsLonger (if b then xs else xs ++ p ∷ []) qs
      → position_or_len (same_point p) qs ≡ position_or_len (same_point p) xs
  by true known l = ap (position_or_len (same_point p)) l.are ∙ stays (same_point p) xs l.more (grind (arith, nat_tests, known))
  by false new l =
      ap (position_or_len (same_point p)) (l.are ∙ append_assoc xs (p ∷ []) l.more)
      ∙ comes (same_point p) xs p l.more (grind (arith, nat_tests, new)) (point_laws.refl p)

-- and it is below their count
pub number_below : (xs : List (List ℤ)) (p : List ℤ) → (placed xs p).0 < length (placed xs p).1
number_below xs p = by (nat_lt (position_or_len (same_point p) xs) (length xs)) refl where
  by : (b : Bool) → nat_lt (position_or_len (same_point p) xs) (length xs) ≡ b → position_or_len (same_point p) xs < length (if b then xs else xs ++ p ∷ [])
  by true known = grind (arith, nat_tests, known)
  by false new = omega (arith, length-append xs (p ∷ []), at_most (same_point p) xs)
