-- Members of mapped and of filtered lists, and of numbers from one on.
use Rattle.std.proofs.Common.{◌≡◌, ℕ, zero, suc, ◌+◌, ◌-◌, ◌<◌, ◌≤◌, Bool, true, List, [], ◌∷◌, map, filter, refl, sym, ap, ◌∙◌, arith}
use Rattle.std.specs.List.{Contains}
use Rattle.std.proofs.lemmas.Bool.{cond_both}
use Rattle.chain_terms.specs.Sums.{up_from}
use Rattle.chain_laws.proofs.Ascending.{contains_later}
use Rattle.chain_laws.proofs.Places.{get_or-up_from, length-up_from}

-- a member's value is one of the mapped list
pub map_contains : {X Y : Type 0} (f : X → Y) (xs : List X) (x : X) → Contains xs x → Contains (map f xs) (f x)
map_contains f [] x (k, l, e) = absurd (omega (arith, l))
map_contains f (z ∷ xs) x (zero, l, e) = (0, omega arith, ap f e)
map_contains f (z ∷ xs) x (suc k, l, e) = contains_later (f x) (f z) (map f xs) (map_contains f xs x (k, omega (arith, l), e))

-- a member of a mapped list, and where it comes from
pub record ComesFrom {X Y : Type 0} (f : X → Y) (xs : List X) (y : Y) : Type 0 where
  pub from : X
  pub inside : Contains xs from
  pub value : f from ≡ y

pub comes_from : {X Y : Type 0} (f : X → Y) (xs : List X) (y : Y) → Contains (map f xs) y → ComesFrom f xs y
comes_from f [] y (k, l, e) = absurd (omega (arith, l))
comes_from f (x ∷ xs) y (zero, l, e) = record { from = x; inside = (0, omega arith, refl); value = e }
comes_from f (x ∷ xs) y (suc k, l, e) =
    let r = comes_from f xs y (k, omega (arith, l), e) in record { from = r.from; inside = contains_later r.from x xs r.inside; value = r.value }

-- a member that passes is kept
pub filter_contains : {X : Type 0} (p : X → Bool) (xs : List X) (x : X) → p x ≡ true → Contains xs x → Contains (filter p xs) x
filter_contains p [] x y (k, l, e) = absurd (omega (arith, l))
filter_contains p (z ∷ xs) x y (zero, l, e) = let passes : p z ≡ true = ap p e ∙ y in rw passes (0, omega arith, e)
filter_contains p (z ∷ xs) x y (suc k, l, e) =
    let rest = filter_contains p xs x y (k, omega (arith, l), e) in
    cond_both (p z) (z ∷ filter p xs) (filter p xs) (λ l. Contains l x) (λ t. contains_later x z (filter p xs) rest) (λ t. rest)

-- what is kept is a member that passes
pub record Kept {X : Type 0} (p : X → Bool) (xs : List X) (x : X) : Type 0 where
  pub inside : Contains xs x
  pub passes : p x ≡ true

kept_later : {X : Type 0} (p : X → Bool) (z : X) (xs : List X) (x : X) → Kept p xs x → Kept p (z ∷ xs) x
kept_later p z xs x r = record { inside = contains_later x z xs r.inside; passes = r.passes }

kept_first : {X : Type 0} (p : X → Bool) (z : X) (xs : List X) (x : X) → p z ≡ true → (Contains (filter p xs) x → Kept p xs x) →
    Contains (z ∷ filter p xs) x → Kept p (z ∷ xs) x
kept_first p z xs x y later (zero, l, e) = record { inside = (0, omega arith, e); passes = ap p (sym e) ∙ y }
kept_first p z xs x y later (suc k, l, e) = kept_later p z xs x (later (k, omega (arith, l), e))

pub kept : {X : Type 0} (p : X → Bool) (xs : List X) (x : X) → Contains (filter p xs) x → Kept p xs x
kept p [] x = λ c. let l = c.1 in absurd (omega (arith, l))
kept p (z ∷ xs) x =
    cond_both (p z) (z ∷ filter p xs) (filter p xs) (λ l. Contains l x → Kept p (z ∷ xs) x) (λ y. kept_first p z xs x y (kept p xs x))
    (λ n c. kept_later p z xs x (kept p xs x c))

-- the numbers from k on
pub up_from_contains : (k n v : ℕ) → k ≤ v → v < k + n → Contains (up_from k n) v
up_from_contains k n v low high =
    let within : v - k < n = omega (arith, low, high) in
    (v - k, omega (arith, within, length-up_from k n), get_or-up_from k n (v - k) v within ∙ omega (arith, low))

pub record IsFrom (k n v : ℕ) : Type 0 where
  pub low : k ≤ v
  pub high : v < k + n

pub in_up_from : (k n v : ℕ) → Contains (up_from k n) v → IsFrom k n v
in_up_from k n v (i, l, e) =
    let within : i < n = omega (arith, l, length-up_from k n) in
    let at : k + i ≡ v = sym (get_or-up_from k n i v within) ∙ e in record { low = omega (arith, at); high = omega (arith, at, within) }
