-- The rank of a member and the k-th place determine each other.
use Rattle.std.specs.Prelude.{◌≡◌, ℕ, zero, suc, ◌+◌, ◌<◌, ◌≤◌, List, [], ◌∷◌, Bool, true, length, get_or, take, count_by}
use Rattle.std.proofs.Common.{arith, refl, ap, ◌∙◌, inl, inr}
use Rattle.std.proofs.lemmas.Bool.{cond_both, cases_order}
use Rattle.std.proofs.lemmas.List.{take_all}
use Rattle.chain_terms.specs.Chains.{one_if}
use Rattle.chain_laws.specs.Counts.{one_if-true, one_if-false, count_by-cons}
use Rattle.chain_terms.specs.Ranks.{rank, nth, IsPlace}

-- the rank is a count of the first i members
pub rank-count_by : {X : Type 0} (p : X → Bool) (xs : List X) (i : ℕ) → rank p xs i ≡ count_by p (take i xs)
rank-count_by p [] zero = refl
rank-count_by p [] (suc i) = refl
rank-count_by p (x ∷ xs) zero = refl
rank-count_by p (x ∷ xs) (suc i) = omega (arith, rank-count_by p xs i, count_by-cons p x (take i xs))

-- a place of the rest is one place later in the whole
pub later : {X : Type 0} (p : X → Bool) (x : X) (xs : List X) (k i : ℕ) → IsPlace p xs k i → IsPlace p (x ∷ xs) (one_if (p x) + k) (suc i)
later p x xs k i h = record { within = omega (arith, h.within); holds = λ d. h.holds d; earlier = omega (arith, h.earlier) }

-- below the count there is a k-th place
pub nth_is : {X : Type 0} (p : X → Bool) (xs : List X) (k : ℕ) → k < count_by p xs → IsPlace p xs k (nth p xs k)
nth_is p [] k h = absurd (omega (arith, h))
nth_is p (x ∷ xs) zero h =
    cond_both (p x) 0 (suc (nth p xs 0)) (λ i. IsPlace p (x ∷ xs) 0 i)
    (λ y. record { within = omega arith; holds = λ d. y; earlier = refl })
    (λ n.
    let none = one_if-false (p x) n in
    let r = later p x xs 0 (nth p xs 0) (nth_is p xs 0 (omega (arith, h, none, count_by-cons p x xs))) in
    record { within = r.within; holds = r.holds; earlier = omega (arith, r.earlier, none) })
nth_is p (x ∷ xs) (suc k) h =
    cond_both (p x) k (suc k) (λ j. IsPlace p (x ∷ xs) (suc k) (suc (nth p xs j)))
    (λ y.
    let one = one_if-true (p x) y in
    let r = later p x xs k (nth p xs k) (nth_is p xs k (omega (arith, h, one, count_by-cons p x xs))) in
    record { within = r.within; holds = r.holds; earlier = omega (arith, r.earlier, one) })
    (λ n.
    let none = one_if-false (p x) n in
    let r = later p x xs (suc k) (nth p xs (suc k)) (nth_is p xs (suc k) (omega (arith, h, none, count_by-cons p x xs))) in
    record { within = r.within; holds = r.holds; earlier = omega (arith, r.earlier, none) })

-- of two places the earlier has the lower rank
pub rank_lower : {X : Type 0} (p : X → Bool) (xs : List X) (i j : ℕ) → i < j → j ≤ length xs → ((d : X) → p (get_or xs i d) ≡ true) → rank p xs i < rank p xs j
rank_lower p [] i j l h y = absurd (omega (arith, l, h))
rank_lower p (x ∷ xs) i zero l h y = absurd (omega (arith, l))
rank_lower p (x ∷ xs) zero (suc j) l h y = omega (arith, one_if-true (p x) (y x))
rank_lower p (x ∷ xs) (suc i) (suc j) l h y = omega (arith, rank_lower p xs i j (omega (arith, l)) (omega (arith, h)) (λ d. y d))

-- a place that passes has a rank below the count
pub rank_below : {X : Type 0} (p : X → Bool) (xs : List X) (i : ℕ) → i < length xs → ((d : X) → p (get_or xs i d) ≡ true) → rank p xs i < count_by p xs
rank_below p xs i l y =
    omega (arith, rank_lower p xs i (length xs) l (omega arith) y, rank-count_by p xs (length xs) ∙ ap (count_by p) (take_all (length xs) xs (omega arith)))

-- a place is known by its rank
pub same_place : {X : Type 0} (p : X → Bool) (xs : List X) (k i j : ℕ) → IsPlace p xs k i → IsPlace p xs k j → i ≡ j
same_place p xs k i j a b = elim (cases_order i j) as (λ _. i ≡ j) [
  | inl e ↦ e
  | inr (inl l) ↦ absurd (omega (arith, a.earlier, b.earlier, rank_lower p xs i j l (omega (arith, b.within)) a.holds))
  | inr (inr l) ↦ absurd (omega (arith, a.earlier, b.earlier, rank_lower p xs j i l (omega (arith, a.within)) b.holds))
]

-- the place with the rank of a place that passes is that place
pub nth_rank : {X : Type 0} (p : X → Bool) (xs : List X) (i : ℕ) → i < length xs → ((d : X) → p (get_or xs i d) ≡ true) → nth p xs (rank p xs i) ≡ i
nth_rank p xs i l y =
    same_place p xs (rank p xs i) (nth p xs (rank p xs i)) i (nth_is p xs (rank p xs i) (rank_below p xs i l y)) (record { within = l; holds = y; earlier = refl })

-- ranks ascend with the places
pub rank_ascends : {X : Type 0} (p : X → Bool) (xs : List X) (i j : ℕ) → i ≤ j → rank p xs i ≤ rank p xs j
rank_ascends p [] i j l = omega arith
rank_ascends p (x ∷ xs) zero j l = omega arith
rank_ascends p (x ∷ xs) (suc i) zero l = absurd (omega (arith, l))
rank_ascends p (x ∷ xs) (suc i) (suc j) l = omega (arith, rank_ascends p xs i j (omega (arith, l)))
