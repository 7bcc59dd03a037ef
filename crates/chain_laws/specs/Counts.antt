-- Counts of equal members: lists with the same counts have the same sums.
use Rattle.std.specs.Prelude.{◌≡◌, ◌+◌, ◌<◌, ℤ, pos, ◌+ℤ◌, List, [], ◌∷◌, ◌++◌, map, true, false, Bool, cond, count_by}
use Rattle.std.specs.Bool.{Decides}
use Rattle.std.proofs.Common.{arith, refl, ap, inl, inr}
use Rattle.std.proofs.lemmas.Int.{ints}
use Rattle.std.proofs.lemmas.Bool.{cases_Bool}
use Rattle.std.proofs.lemmas.List.Sums.{sum_by-cons, sum_by-append}
use Rattle.chain_terms.specs.Sums.{total}
use Rattle.chain_terms.specs.Chains.{one_if}
use Rattle.chain_laws.specs.Sums.{total-append}

-- one_if of a test that holds
pub one_if-true : (b : Bool) → b ≡ true → one_if b ≡ 1
one_if-true b h = ap one_if h

-- one_if of a test that fails
pub one_if-false : (b : Bool) → b ≡ false → one_if b ≡ 0
one_if-false b h = ap one_if h

-- one_if is what std's counts add up
pub one_if-cond : (b : Bool) → cond b 1 0 ≡ one_if b
one_if-cond true = refl
one_if-cond false = refl

-- a count with one more member in front
pub count_by-cons : {X : Type 0} (p : X → Bool) → (x : X) (xs : List X) → count_by p (x ∷ xs) ≡ one_if (p x) + count_by p xs
count_by-cons p x xs = omega (arith, one_if-cond (p x), sum_by-cons (λ y. cond (p y) 1 0) x xs)

-- a count is a sum of ones
pub total-count_by : {X : Type 0} (p : X → Bool) → (xs : List X) → total (λ x. pos (one_if (p x))) xs ≡ pos (count_by p xs)
total-count_by p [] = refl
total-count_by p (x ∷ xs) = omega (arith, ints, count_by-cons p x xs, total-count_by p xs)

-- a count of a renamed list
pub count_by-map : {X Y : Type 0} (p : Y → Bool) (h : X → Y) → (xs : List X) → count_by p (map h xs) ≡ count_by (λ x. p (h x)) xs
count_by-map p h [] = refl
count_by-map p h (x ∷ xs) = omega (arith, count_by-cons p (h x) (map h xs), count_by-cons (λ y. p (h y)) x xs, count_by-map p h xs)

-- a member may be counted first
pub count_by-middle : {X : Type 0} (p : X → Bool) → (xs : List X) (y : X) (ys : List X) → count_by p (xs ++ y ∷ ys) ≡ one_if (p y) + count_by p (xs ++ ys)
count_by-middle p xs y ys = omega (arith, sum_by-append (λ x. cond (p x) 1 0) xs (y ∷ ys), sum_by-append (λ x. cond (p x) 1 0) xs ys, count_by-cons p y ys)

-- or added first
pub total-middle : {X : Type 0} (f : X → ℤ) → (xs : List X) (y : X) (ys : List X) → total f (xs ++ y ∷ ys) ≡ f y +ℤ total f (xs ++ ys)
total-middle f xs y ys = omega (arith, ints, total-append f xs (y ∷ ys), total-append f xs ys)

-- a member that passes a test, and the list on both sides of it
pub record Splits {X : Type 0} (p : X → Bool) (xs : List X) : Type 0 where
  pub front : List X
  pub member : X
  pub back : List X
  pub passes : p member ≡ true
  pub joined : xs ≡ front ++ member ∷ back

-- where a test is passed at all, the list splits at a member that passes
pub split_by : {X : Type 0} (p : X → Bool) → (xs : List X) → 0 < count_by p xs → Splits p xs
split_by p [] h = absurd (omega (arith, h))
split_by p (x ∷ xs) h = elim (cases_Bool (p x)) as (λ _. Splits p (x ∷ xs)) [
  | inl y ↦ record { front = []; member = x; back = xs; passes = y; joined = refl }
  | inr n ↦
      let s = split_by p xs (omega (arith, h, one_if-false (p x) n, count_by-cons p x xs)) in
      record { front = x ∷ s.front; member = s.member; back = s.back; passes = s.passes; joined = ap (λ l. x ∷ l) s.joined }
]

-- two lists that have each member equally often have the same sums
pub same_counts : {X : Type 0} (same : X → X → Bool) → ((x y : X) → Decides (same x y) (x ≡ y)) → (f : X → ℤ) → (xs ys : List X) →
    ((x : X) → count_by (same x) xs ≡ count_by (same x) ys) → total f xs ≡ total f ys
same_counts same decides f [] [] h = refl
same_counts same decides f [] (y ∷ ys) h =
    absurd (omega (arith, h y, count_by-cons (same y) y ys, one_if-true (same y y) ((decides y y).1 refl)))
same_counts same decides f (x ∷ xs) ys h =
    let p : 0 < count_by (same x) ys = omega (arith, h x, count_by-cons (same x) x xs, one_if-true (same x x) ((decides x x).1 refl)) in
    let s = split_by (same x) ys p in
    let e : x ≡ s.member = (decides x s.member).0 s.passes in
    let rest = same_counts same decides f xs (s.front ++ s.back)
    (λ z. omega (
      arith,
      h z,
      count_by-cons (same z) x xs,
      ap (λ l. count_by (same z) l) s.joined,
      count_by-middle (same z) s.front s.member s.back,
      ap (λ m. one_if (same z m)) e,
    )) in
    omega (arith, ints, rest, ap (total f) s.joined, total-middle f s.front s.member s.back, ap f e)
