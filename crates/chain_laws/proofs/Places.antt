-- Sums over the numbers below a number.
use Rattle.std.specs.Prelude.{◌≡◌, ℕ, zero, suc, ◌+◌, ◌<◌, ◌≤◌, ◌*◌, ℤ, pos, ◌+ℤ◌, ◌≤ℤ◌, List, [], ◌∷◌, ◌++◌, length, get_or, cond, ◌==◌}
use Rattle.std.proofs.Common.{arith, refl, sym, ap, ◌∙◌, inl, inr}
use Rattle.std.proofs.lemmas.Int.{ints}
use Rattle.std.proofs.lemmas.Bool.{eqb-true, eqb-false, eq-eqb, ne_eqb, cases_Bool}
use Rattle.chain_terms.specs.Sums.{total, up_from, upto}
use Rattle.chain_laws.specs.Sums.{total_push}

-- how many numbers there are
pub length-up_from : (k n : ℕ) → length (up_from k n) ≡ n
length-up_from k zero = refl
length-up_from k (suc n) = omega (arith, length-up_from (suc k) n)

-- the i-th number
pub get_or-up_from : (k n i d : ℕ) → i < n → get_or (up_from k n) i d ≡ k + i
get_or-up_from k zero i d h = absurd (omega (arith, h))
get_or-up_from k (suc n) zero d h = omega arith
get_or-up_from k (suc n) (suc i) d h = omega (arith, get_or-up_from (suc k) n i d (omega (arith, h)))

-- the numbers in two parts
pub up_from-append : (k m n : ℕ) → up_from k (m + n) ≡ up_from k m ++ up_from (k + m) n
up_from-append k zero n =
    let none : 0 + n ≡ n = omega arith in
    let here : k ≡ k + 0 = omega arith in
    ap (up_from k) none ∙ ap (λ j. up_from j n) here
up_from-append k (suc m) n =
    let more : suc m + n ≡ suc (m + n) = omega arith in
    let shift : suc k + m ≡ k + suc m = omega arith in
    ap (up_from k) more ∙ ap (λ l. k ∷ l) (up_from-append (suc k) m n) ∙ ap (λ j. k ∷ up_from (suc k) m ++ up_from j n) shift

-- one more number
pub upto_more : (n : ℕ) → upto (n + 1) ≡ upto n ++ n ∷ []
upto_more n = let last : 0 + n ≡ n = omega arith in up_from-append 0 n 1 ∙ ap (λ j. upto n ++ up_from j 1) last

-- a sum with one more number, as at a step of a loop
pub total-upto_more : (f : ℕ → ℤ) (n : ℕ) → total f (upto (n + 1)) ≡ total f (upto n) +ℤ f n
total-upto_more f n = ap (total f) (upto_more n) ∙ total_push f (upto n) n

-- functions that agree on the numbers have the same sum
pub total-up_from_same : (f g : ℕ → ℤ) (k n : ℕ) → ((i : ℕ) → k ≤ i → i < k + n → f i ≡ g i) → total f (up_from k n) ≡ total g (up_from k n)
total-up_from_same f g k zero h = refl
total-up_from_same f g k (suc n) h =
    omega (arith, ints, h k (omega arith) (omega arith), total-up_from_same f g (suc k) n (λ i a b. h i (omega (arith, a)) (omega (arith, b))))

-- functions that agree below n have the same sum below n
pub total-upto_same : (f g : ℕ → ℤ) (n : ℕ) → ((i : ℕ) → i < n → f i ≡ g i) → total f (upto n) ≡ total g (upto n)
total-upto_same f g n h = total-up_from_same f g 0 n (λ i a b. h i (omega (arith, b)))

-- z where k is i, else 0
abbrev pub where_same : ℕ → ℕ → ℤ → ℤ
where_same k i z = cond (k == i) z (pos 0)

-- apart it is 0
pub where_same-apart : (k i : ℕ) (z : ℤ) → (k ≡ i → ⊥) → where_same k i z ≡ pos 0
where_same-apart k i z d = ap (λ b. cond b z (pos 0)) (ne_eqb k i d)

-- at i it is z
pub where_same-at : (k i : ℕ) (z : ℤ) → k ≡ i → where_same k i z ≡ z
where_same-at k i z e = ap (λ b. cond b z (pos 0)) (eq-eqb k i e)

-- a value at k may be read at i
pub where_same-value : (f : ℕ → ℤ) (k i : ℕ) → where_same k i (f k) ≡ where_same k i (f i)
where_same-value f k i = elim (cases_Bool (k == i)) as (λ _. where_same k i (f k) ≡ where_same k i (f i)) [
  | inl y ↦ ap (λ z. where_same k i (f z)) (eqb-true k i y)
  | inr y ↦ let d = eqb-false k i y in where_same-apart k i (f k) d ∙ sym (where_same-apart k i (f i) d)
]

-- no number from k on is i
pub no_hit : (z : ℤ) (i k n : ℕ) → i < k → total (λ j. where_same j i z) (up_from k n) ≡ pos 0
no_hit z i k zero h = refl
no_hit z i k (suc n) h = omega (arith, ints, where_same-apart k i z (λ e. omega (arith, e, h)), no_hit z i (suc k) n (omega (arith, h)))

-- exactly one of the numbers is i
pub one_hit_from : (z : ℤ) (i k n : ℕ) → k ≤ i → i < k + n → total (λ j. where_same j i z) (up_from k n) ≡ z
one_hit_from z i k zero h l = absurd (omega (arith, h, l))
one_hit_from z i k (suc n) h l = elim (cases_Bool (k == i)) as (λ _. total (λ j. where_same j i z) (up_from k (suc n)) ≡ z) [
  | inl y ↦ let e = eqb-true k i y in omega (arith, ints, where_same-at k i z e, no_hit z i (suc k) n (omega (arith, e)))
  | inr y ↦ let d = eqb-false k i y in omega (arith, ints, where_same-apart k i z d, one_hit_from z i (suc k) n (omega (arith, h, d)) (omega (arith, l)))
]

-- a sum below n in which i alone counts
pub one_hit : (z : ℤ) (i n : ℕ) → i < n → total (λ j. where_same j i z) (upto n) ≡ z
one_hit z i n l = one_hit_from z i 0 n (omega arith) (omega (arith, l))

-- the same where the value may depend on the number
pub one_hit_of : (f : ℕ → ℤ) (i n : ℕ) → i < n → total (λ j. where_same j i (f j)) (upto n) ≡ f i
one_hit_of f i n l = total-upto_same (λ j. where_same j i (f j)) (λ j. where_same j i (f i)) n (λ j b. where_same-value f j i) ∙ one_hit (f i) i n l

-- a sum over a list is a sum over its places
pub total-places_from : {X : Type 0} (f : X → ℤ) (d : X) (g : ℕ → ℤ) (k : ℕ) (xs : List X) → ((i : ℕ) → i < length xs → g (k + i) ≡ f (get_or xs i d)) →
    total f xs ≡ total g (up_from k (length xs))
total-places_from f d g k [] h = refl
total-places_from f d g k (x ∷ xs) h =
    let here : g (k + 0) ≡ f x = h 0 (omega arith) in
    let at : g k ≡ g (k + 0) = ap g (omega arith) in
    let rest = total-places_from f d g (suc k) xs (λ i l. ap g (omega arith) ∙ h (suc i) (omega (arith, l))) in
    omega (arith, ints, here, at, rest)

-- the same from place 0 on
pub total-places : {X : Type 0} (f : X → ℤ) (d : X) (xs : List X) → total f xs ≡ total (λ i. f (get_or xs i d)) (upto (length xs))
total-places f d xs = total-places_from f d (λ i. f (get_or xs i d)) 0 xs (λ i l. ap (λ j. f (get_or xs j d)) (omega arith))

-- a sum of ones is how many there are
pub total-upto_ones : (n : ℕ) → total (λ i. pos 1) (upto n) ≡ pos n
total-upto_ones n = omega (arith, ints, ones (upto n), length-up_from 0 n)
  where
    ones : (xs : List ℕ) → total (λ i. pos 1) xs ≡ pos (length xs)
    ones [] = refl
    ones (x ∷ xs) = omega (arith, ints, ones xs)

-- a sum of terms of at most b each
pub total-up_from_at_most : (f : ℕ → ℤ) (b k n : ℕ) → ((i : ℕ) → k ≤ i → i < k + n → f i ≤ℤ pos b) → total f (up_from k n) ≤ℤ pos (b * n)
total-up_from_at_most f b k zero h = omega (arith, ints)
total-up_from_at_most f b k (suc n) h =
    omega (arith, ints, h k (omega arith) (omega arith), total-up_from_at_most f b (suc k) n (λ i a c. h i (omega (arith, a)) (omega (arith, c))))

-- the same below n
pub total-upto_at_most : (f : ℕ → ℤ) (b n : ℕ) → ((i : ℕ) → i < n → f i ≤ℤ pos b) → total f (upto n) ≤ℤ pos (b * n)
total-upto_at_most f b n h = total-up_from_at_most f b 0 n (λ i a c. h i (omega (arith, c)))
