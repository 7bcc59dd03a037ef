-- The first member that passes a test; where only one passes, it is the same in every order.
use Rattle.std.specs.Prelude.{◌≡◌, zero, suc, ◌<◌, ◌≤◌, ℤ, pos, List, [], ◌∷◌, Bool, true, false, cond, count_by}
use Rattle.std.specs.List.{Contains}
use Rattle.std.specs.List.Sorted.{IsPermutation}
use Rattle.std.proofs.Common.{arith, refl, sym, ap, ◌∙◌, inl, inr}
use Rattle.std.proofs.lemmas.Int.{ints}
use Rattle.std.proofs.lemmas.Bool.{cases_Bool, cases_lt}
use Rattle.std.proofs.lemmas.List.Sorted.{Contains-permutation, sum_by-IsPermutation}
use Rattle.chain_terms.specs.Sums.{total}
use Rattle.chain_laws.specs.Counts.{count_by-cons, one_if-true, one_if-false}

-- v of the first member that passes p, or d where none does
abbrev pub first_of : {X Y : Type 0} → (X → Bool) → (X → Y) → Y → List X → Y
first_of p v d [] = d
first_of p v d (x ∷ xs) = cond (p x) (v x) (first_of p v d xs)

-- the head, where it passes
pub first_of-yes : {X Y : Type 0} (p : X → Bool) (v : X → Y) (d : Y) (x : X) (xs : List X) → p x ≡ true → first_of p v d (x ∷ xs) ≡ v x
first_of-yes p v d x xs h = ap (λ b. cond b (v x) (first_of p v d xs)) h

-- else the first of the rest
pub first_of-no : {X Y : Type 0} (p : X → Bool) (v : X → Y) (d : Y) (x : X) (xs : List X) → p x ≡ false → first_of p v d (x ∷ xs) ≡ first_of p v d xs
first_of-no p v d x xs h = ap (λ b. cond b (v x) (first_of p v d xs)) h

-- where no member passes it is d
pub first_of-none : {X Y : Type 0} (p : X → Bool) (v : X → Y) (d : Y) (xs : List X) → count_by p xs ≡ 0 → first_of p v d xs ≡ d
first_of-none p v d [] h = refl
first_of-none p v d (x ∷ xs) h = elim (cases_Bool (p x)) as (λ _. first_of p v d (x ∷ xs) ≡ d) [
  | inl y ↦ absurd (omega (arith, h, count_by-cons p x xs, one_if-true (p x) y))
  | inr n ↦ first_of-no p v d x xs n ∙ first_of-none p v d xs (omega (arith, h, count_by-cons p x xs))
]

-- a member that passes is counted
pub counted : {X : Type 0} (p : X → Bool) (x : X) (xs : List X) → Contains xs x → p x ≡ true → 0 < count_by p xs
counted p x [] (k, l, e) y = absurd (omega (arith, l))
counted p x (z ∷ xs) (zero, l, e) y = omega (arith, count_by-cons p z xs, one_if-true (p z) (ap p e ∙ y))
counted p x (z ∷ xs) (suc k, l, e) y = omega (arith, count_by-cons p z xs, counted p x xs (k, omega (arith, l), e) y)

-- where one member alone passes, it is the first
pub first_of-only : {X Y : Type 0} (p : X → Bool) (v : X → Y) (d : Y) (x : X) (xs : List X) → count_by p xs ≤ 1 → Contains xs x → p x ≡ true → first_of p v d xs ≡ v x
first_of-only p v d x [] few (k, l, e) y = absurd (omega (arith, l))
first_of-only p v d x (z ∷ xs) few (zero, l, e) y = first_of-yes p v d z xs (ap p e ∙ y) ∙ ap v e
first_of-only p v d x (z ∷ xs) few (suc k, l, e) y = elim (cases_Bool (p z)) as (λ _. first_of p v d (z ∷ xs) ≡ v x) [
  | inl t ↦ absurd (omega (arith, few, count_by-cons p z xs, one_if-true (p z) t, counted p x xs (k, omega (arith, l), e) y))
  | inr n ↦ first_of-no p v d z xs n ∙ first_of-only p v d x xs (omega (arith, few, count_by-cons p z xs)) (k, omega (arith, l), e) y
]

-- a member that passes
pub record Passing {X : Type 0} (p : X → Bool) (xs : List X) : Type 0 where
  pub member : X
  pub inside : Contains xs member
  pub passes : p member ≡ true

-- where the count is not 0, some member passes
pub passing : {X : Type 0} (p : X → Bool) (xs : List X) → 0 < count_by p xs → Passing p xs
passing p [] h = absurd (omega (arith, h))
passing p (x ∷ xs) h = elim (cases_Bool (p x)) as (λ _. Passing p (x ∷ xs)) [
  | inl y ↦ record { member = x; inside = (0, omega arith, refl); passes = y }
  | inr n ↦
      let r = passing p xs (omega (arith, h, count_by-cons p x xs, one_if-false (p x) n)) in
      record { member = r.member; inside = (suc r.inside.0, omega (arith, r.inside.1), r.inside.2); passes = r.passes }
]

-- where at most one member passes, the first that passes is the same in every order
pub first_of-permutation : {X Y : Type 0} (p : X → Bool) (v : X → Y) (d : Y) (xs ys : List X) → count_by p xs ≤ 1 → IsPermutation xs ys → first_of p v d ys ≡ first_of p v d xs
first_of-permutation p v d xs ys few moved = elim (cases_lt 0 (count_by p xs)) as (λ _. first_of p v d ys ≡ first_of p v d xs) [
  | inl l ↦
      let r = passing p xs l in
      first_of-only p v d r.member ys (omega (arith, few, same)) (Contains-permutation xs ys r.member moved r.inside) r.passes
      ∙ sym (first_of-only p v d r.member xs few r.inside r.passes)
  | inr z ↦ first_of-none p v d ys (omega (arith, z, same)) ∙ sym (first_of-none p v d xs (omega (arith, z)))
]
  where
    same : count_by p ys ≡ count_by p xs
    same = sum_by-IsPermutation (λ x. cond (p x) 1 0) xs ys moved

-- a sum in which no member passes is 0
pub total-no_hit : {X : Type 0} (p : X → Bool) (f : X → ℤ) (xs : List X) → count_by p xs ≡ 0 → total (λ x. cond (p x) (f x) (pos 0)) xs ≡ pos 0
total-no_hit p f [] h = refl
total-no_hit p f (x ∷ xs) h = elim (cases_Bool (p x)) as (λ _. total (λ y. cond (p y) (f y) (pos 0)) (x ∷ xs) ≡ pos 0) [
  | inl y ↦ absurd (omega (arith, h, count_by-cons p x xs, one_if-true (p x) y))
  | inr n ↦ rw n (omega (arith, ints, total-no_hit p f xs (omega (arith, h, count_by-cons p x xs))))
]

-- one in which at most one passes is its value at the first that does
pub total-first : {X : Type 0} (p : X → Bool) (f : X → ℤ) (xs : List X) → count_by p xs ≤ 1 → total (λ x. cond (p x) (f x) (pos 0)) xs ≡ first_of p f (pos 0) xs
total-first p f [] few = refl
total-first p f (x ∷ xs) few = elim (cases_Bool (p x)) as (λ _. total (λ y. cond (p y) (f y) (pos 0)) (x ∷ xs) ≡ first_of p f (pos 0) (x ∷ xs)) [
  | inl y ↦ rw y (omega (arith, ints, total-no_hit p f xs (omega (arith, few, count_by-cons p x xs, one_if-true (p x) y))))
  | inr n ↦ rw n (omega (arith, ints, total-first p f xs (omega (arith, few, count_by-cons p x xs))))
]
