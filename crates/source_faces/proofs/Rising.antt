-- Lists of numbers that rise strictly, from one number on and below another.
use Rattle.std.proofs.Common.{ℕ, zero, suc, ◌+◌, ◌<◌, ◌≤◌, Bool, List, [], ◌∷◌, ◌++◌, map, filter, length, get_or, arith}
use Rattle.std.proofs.lemmas.Bool.{cond_both}
use Rattle.chain_terms.specs.Sums.{up_from}
use Rattle.chain_laws.specs.Ascending.{Ascends}
use Rattle.chain_laws.proofs.Ascending.{ascends_cons}

-- each number is above those before it, the first is at least k, and all are below m
abbrev pub Rises : ℕ → ℕ → List ℕ → Type 0
Rises k m [] = k ≤ m
Rises k m (x ∷ xs) = (k ≤ x) × Rises (suc x) m xs

-- also from a lower number on
pub rises_lower : (j k m : ℕ) (xs : List ℕ) → j ≤ k → Rises k m xs → Rises j m xs
rises_lower j k m [] l h = omega (arith, l, h)
rises_lower j k m (x ∷ xs) l h = let low = h.0 in (omega (arith, l, low), h.1)

-- and below a higher one
pub rises_higher : (k m n : ℕ) (xs : List ℕ) → m ≤ n → Rises k m xs → Rises k n xs
rises_higher k m n [] l h = omega (arith, l, h)
rises_higher k m n (x ∷ xs) l h = (h.0, rises_higher (suc x) m n xs l h.1)

-- one behind the other
pub rises_append : (k m n : ℕ) (xs ys : List ℕ) → Rises k m xs → Rises m n ys → Rises k n (xs ++ ys)
rises_append k m n [] ys h r = rises_lower k m n ys h r
rises_append k m n (x ∷ xs) ys h r = (h.0, rises_append (suc x) m n xs ys h.1 r)

-- the numbers from k on
pub rises-up_from : (k n : ℕ) → Rises k (k + n) (up_from k n)
rises-up_from k zero = omega arith
rises-up_from k (suc n) = (omega arith, rises_higher (suc k) (suc k + n) (k + suc n) (up_from (suc k) n) (omega arith) (rises-up_from (suc k) n))

-- of some members
pub rises-filter : {X : Type 0} (f : X → ℕ) (p : X → Bool) (k m : ℕ) (xs : List X) → Rises k m (map f xs) → Rises k m (map f (filter p xs))
rises-filter f p k m [] h = h
rises-filter f p k m (x ∷ xs) h =
    let low = h.0 in
    let rest = rises-filter f p (suc (f x)) m xs h.1 in
    cond_both (p x) (x ∷ filter p xs) (filter p xs) (λ l. Rises k m (map f l)) (λ y. (h.0, rest))
    (λ n. rises_lower k (suc (f x)) m (map f (filter p xs)) (omega (arith, low)) rest)

-- no number is below the first
pub rises_at : (k m : ℕ) (xs : List ℕ) → Rises k m xs → (i : ℕ) → i < length xs → k ≤ get_or xs i 0
rises_at k m [] h i l = absurd (omega (arith, l))
rises_at k m (x ∷ xs) h zero l = h.0
rises_at k m (x ∷ xs) h (suc i) l = let low = h.0 in omega (arith, low, rises_at (suc x) m xs h.1 i (omega (arith, l)))

-- such a list ascends
pub rises_ascends : (k m : ℕ) (xs : List ℕ) → Rises k m xs → Ascends xs
rises_ascends k m [] h = λ i j l within. absurd (omega (arith, within))
rises_ascends k m (x ∷ xs) h = ascends_cons x xs (λ i l. let up = rises_at (suc x) m xs h.1 i l in omega (arith, up)) (rises_ascends (suc x) m xs h.1)
