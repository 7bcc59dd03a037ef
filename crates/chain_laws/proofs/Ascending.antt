-- Ascending filters: the numbers below n that pass a test, in order.
use Rattle.std.specs.Prelude.{◌≡◌, ℕ, zero, suc, ◌+◌, ◌<◌, ◌≤◌, ℤ, pos, List, [], ◌∷◌, ◌++◌, true, false, Bool, cond, filter, length, get_or, ◌↔◌}
use Rattle.std.specs.List.{Contains}
use Rattle.std.proofs.Common.{arith, refl, sym, ap, subst, ◌∙◌, inl, inr}
use Rattle.std.proofs.lemmas.Int.{ints}
use Rattle.std.proofs.lemmas.Bool.{cases_Bool, cases_eq, cond_both}
use Rattle.std.proofs.lemmas.List.{get_or_default, append-nil}
use Rattle.std.proofs.lemmas.List.Elements.{filter-append}
use Rattle.chain_terms.specs.Sums.{total, up_from, upto}
use Rattle.chain_laws.specs.Ascending.{Ascends}
use Rattle.chain_laws.proofs.Places.{upto_more}

-- a sum over a filter: a member that fails counts 0
pub total-filter : {X : Type 0} (f : X → ℤ) (p : X → Bool) (xs : List X) → total f (filter p xs) ≡ total (λ x. cond (p x) (f x) (pos 0)) xs
total-filter f p [] = refl
total-filter f p (x ∷ xs) = elim (cases_Bool (p x)) as (λ _. total f (filter p (x ∷ xs)) ≡ total (λ y. cond (p y) (f y) (pos 0)) (x ∷ xs)) [
  | inl y ↦ rw y (omega (arith, ints, total-filter f p xs))
  | inr n ↦ rw n (omega (arith, ints, total-filter f p xs))
]

-- one more number that passes, as at a step of a loop
pub filter-upto_yes : (p : ℕ → Bool) (n : ℕ) → p n ≡ true → filter p (upto (n + 1)) ≡ filter p (upto n) ++ n ∷ []
filter-upto_yes p n y = ap (filter p) (upto_more n) ∙ filter-append p (upto n) (n ∷ []) ∙ ap (λ b. filter p (upto n) ++ cond b (n ∷ []) []) y

-- or that fails
pub filter-upto_no : (p : ℕ → Bool) (n : ℕ) → p n ≡ false → filter p (upto (n + 1)) ≡ filter p (upto n)
filter-upto_no p n y = ap (filter p) (upto_more n) ∙ filter-append p (upto n) (n ∷ []) ∙ ap (λ b. filter p (upto n) ++ cond b (n ∷ []) []) y ∙ append-nil (filter p (upto n))

-- tests that agree on the numbers from k on keep the same
pub filter-up_from_same : (p q : ℕ → Bool) (k n : ℕ) → ((i : ℕ) → k ≤ i → i < k + n → p i ≡ q i) → filter p (up_from k n) ≡ filter q (up_from k n)
filter-up_from_same p q k zero h = refl
filter-up_from_same p q k (suc n) h =
    ap (λ l. cond (p k) (k ∷ l) l) (filter-up_from_same p q (suc k) n (λ i a b. h i (omega (arith, a)) (omega (arith, b))))
    ∙ ap (λ b. cond b (k ∷ filter q (up_from (suc k) n)) (filter q (up_from (suc k) n))) (h k (omega arith) (omega arith))

-- tests that agree below n keep the same
pub filter-upto_same : (p q : ℕ → Bool) (n : ℕ) → ((i : ℕ) → i < n → p i ≡ q i) → filter p (upto n) ≡ filter q (upto n)
filter-upto_same p q n h = filter-up_from_same p q 0 n (λ i a b. h i (omega (arith, b)))

-- a number that is kept: it passes, and is one of the numbers
pub record IsKept (p : ℕ → Bool) (k n x : ℕ) : Type 0 where
  pub low : k ≤ x
  pub high : x < k + n
  pub passes : p x ≡ true

-- one of the later numbers
pub kept_later : (p : ℕ → Bool) (k n x : ℕ) → IsKept p (suc k) n x → IsKept p k (suc n) x
kept_later p k n x r = record { low = omega (arith, r.low); high = omega (arith, r.high); passes = r.passes }

-- the first number, or one of the later
pub kept_first : (p : ℕ → Bool) (k n : ℕ) (xs : List ℕ) → p k ≡ true → ((i : ℕ) → i < length xs → IsKept p (suc k) n (get_or xs i 0)) → (i : ℕ) →
    i < length (k ∷ xs) → IsKept p k (suc n) (get_or (k ∷ xs) i 0)
kept_first p k n xs y rest zero h = record { low = omega arith; high = omega arith; passes = y }
kept_first p k n xs y rest (suc i) h = kept_later p k n (get_or xs i 0) (rest i (omega (arith, h)))

-- each number that a filter keeps is one that passes
pub kept_at : (p : ℕ → Bool) (k n i : ℕ) → i < length (filter p (up_from k n)) → IsKept p k n (get_or (filter p (up_from k n)) i 0)
kept_at p k zero = λ i h. absurd (omega (arith, h))
kept_at p k (suc n) = cond_both (p k) (k ∷ filter p (up_from (suc k) n)) (filter p (up_from (suc k) n)) (λ l. (i : ℕ) → i < length l → IsKept p k (suc n) (get_or l i 0))
    (λ y. kept_first p k n (filter p (up_from (suc k) n)) y (kept_at p (suc k) n))
    (λ m i h. kept_later p k n (get_or (filter p (up_from (suc k) n)) i 0) (kept_at p (suc k) n i h))

-- one more member in front
pub contains_later : {X : Type 0} (x y : X) (xs : List X) → Contains xs x → Contains (y ∷ xs) x
contains_later x y xs (i, l, e) = (suc i, omega (arith, l), e)

-- each number that passes is kept
pub kept : (p : ℕ → Bool) (k n x : ℕ) → IsKept p k n x → Contains (filter p (up_from k n)) x
kept p k zero x h = absurd (omega (arith, h.low, h.high))
kept p k (suc n) x h = elim (cases_eq k x) as (λ _. Contains (filter p (up_from k (suc n))) x) [
  | inl e ↦ ap_contains p k n x e (ap p e ∙ h.passes)
  | inr d ↦
      let rest = kept p (suc k) n x (record { low = omega (arith, h.low, d); high = omega (arith, h.high); passes = h.passes }) in
      cond_both (p k) (k ∷ filter p (up_from (suc k) n)) (filter p (up_from (suc k) n)) (λ l. Contains l x)
      (λ y. contains_later x k (filter p (up_from (suc k) n)) rest) (λ m. rest)
]
  where
    ap_contains : (p : ℕ → Bool) (k n x : ℕ) → k ≡ x → p k ≡ true → Contains (filter p (up_from k (suc n))) x
    ap_contains p k n x e y = rw y (0, omega arith, e)

-- a number in front of an ascending list of higher ones
pub ascends_cons : (x : ℕ) (xs : List ℕ) → ((i : ℕ) → i < length xs → x < get_or xs i 0) → Ascends xs → Ascends (x ∷ xs)
ascends_cons x xs first up i zero l h = absurd (omega (arith, l))
ascends_cons x xs first up zero (suc j) l h = first j (omega (arith, h))
ascends_cons x xs first up (suc i) (suc j) l h = up i j (omega (arith, l)) (omega (arith, h))

-- a filter of ascending numbers ascends
pub filter-ascends : (p : ℕ → Bool) (k n : ℕ) → Ascends (filter p (up_from k n))
filter-ascends p k zero = λ i j l h. absurd (omega (arith, h))
filter-ascends p k (suc n) = cond_both (p k) (k ∷ filter p (up_from (suc k) n)) (filter p (up_from (suc k) n)) Ascends
    (λ y. ascends_cons k (filter p (up_from (suc k) n)) (λ i h. let r = kept_at p (suc k) n i h in omega (arith, r.low)) (filter-ascends p (suc k) n))
    (λ m. filter-ascends p (suc k) n)

-- the rest of an ascending list ascends
pub ascends_rest : (x : ℕ) (xs : List ℕ) → Ascends (x ∷ xs) → Ascends xs
ascends_rest x xs up i j l h = up (suc i) (suc j) (omega (arith, l)) (omega (arith, h))

-- no member is below the head
pub head_least : (x : ℕ) (xs : List ℕ) → Ascends (x ∷ xs) → (z : ℕ) → Contains (x ∷ xs) z → x ≤ z
head_least x xs up z (zero, l, e) = omega (arith, e)
head_least x xs up z (suc i, l, e) = omega (arith, e, up 0 (suc i) (omega arith) l, get_or_default xs i z 0 (omega (arith, l)))

-- a member of the whole that is not the head is one of the rest
pub contains_rest : (x : ℕ) (xs : List ℕ) (z : ℕ) → Contains (x ∷ xs) z → (x ≡ z → ⊥) → Contains xs z
contains_rest x xs z (zero, l, e) d = absurd (d e)
contains_rest x xs z (suc i, l, e) d = (i, omega (arith, l), e)

-- the head of an ascending list is not in the rest
pub head_not_later : (x : ℕ) (xs : List ℕ) → Ascends (x ∷ xs) → Contains xs x → ⊥
head_not_later x xs up (i, l, e) = omega (arith, e, up 0 (suc i) (omega arith) (omega (arith, l)), get_or_default xs i x 0 l)

-- ascending lists with the same members are the same list
pub ascending_same : (xs ys : List ℕ) → Ascends xs → Ascends ys → ((z : ℕ) → Contains xs z ↔ Contains ys z) → xs ≡ ys
ascending_same [] [] up vp same = refl
ascending_same [] (y ∷ ys) up vp same = let c = (same y).1 (0, omega arith, refl) in absurd (omega (arith, c.1))
ascending_same (x ∷ xs) [] up vp same = let c = (same x).0 (0, omega arith, refl) in absurd (omega (arith, c.1))
ascending_same (x ∷ xs) (y ∷ ys) up vp same =
    let low = head_least x xs up y ((same y).1 (0, omega arith, refl)) in
    let high = head_least y ys vp x ((same x).0 (0, omega arith, refl)) in
    let e : x ≡ y = omega (arith, low, high) in
    let rest = ascending_same xs ys (ascends_rest x xs up) (ascends_rest y ys vp)
    (λ z. (
      (λ c. contains_rest y ys z ((same z).0 (contains_later z x xs c)) (λ q. head_not_later x xs up (subst (Contains xs) (sym q ∙ sym e) c))),
      (λ c. contains_rest x xs z ((same z).1 (contains_later z y ys c)) (λ q. head_not_later y ys vp (subst (Contains ys) (sym q ∙ e) c))),
    )) in
    ap (λ z. z ∷ xs) e ∙ ap (λ l. y ∷ l) rest

-- an ascending list of exactly the numbers below n that pass is the filter
pub ascending_is_filter : (p : ℕ → Bool) (n : ℕ) (xs : List ℕ) → Ascends xs → ((z : ℕ) → Contains xs z ↔ ((z < n) × (p z ≡ true))) → xs ≡ filter p (upto n)
ascending_is_filter p n xs up same =
    ascending_same xs (filter p (upto n)) up (filter-ascends p 0 n)
    (λ z. (
      (λ c. let r = (same z).0 c in kept p 0 n z (record { low = omega arith; high = omega (arith, r.0); passes = r.1 })),
      (λ c. (same z).1 (kept_means p n z c)),
    ))
  where
    kept_means : (p : ℕ → Bool) (n z : ℕ) → Contains (filter p (upto n)) z → (z < n) × (p z ≡ true)
    kept_means p n z (i, l, e) =
        let r = kept_at p 0 n i l in
        let same : get_or (filter p (upto n)) i 0 ≡ z = sym (get_or_default (filter p (upto n)) i z 0 l) ∙ e in
        (omega (arith, r.high, same), ap p (sym same) ∙ r.passes)
