-- Sets of half-edges in doubt, after one is added and after the least is taken.
use Rattle.std.proofs.Common.{◌≡◌, ℕ, zero, suc, ◌+◌, ◌<◌, ◌≤◌, Bool, true, false, List, [], ◌∷◌, Ordering, Less, Equal, Greater, length, refl, sym, arith}
use Rattle.std.specs.Prelude.{cond, nat_lt, ◌==◌}
use Rattle.std.specs.BTreeSet.{insert_key}
use Rattle.std.specs.List.{All, Contains}
use Rattle.std.specs.Ordering.{match_ordering, nat_cmp}
use Rattle.std.proofs.lemmas.Bool.{eqb-true}
use Rattle.std.proofs.lemmas.Bool.Decides.{Decides-ltb}
use Rattle.std.proofs.lemmas.List.Elements.{All-cons, All-head, All-tail, All-weaker}

-- numbers that compare as equal are equal
equal_same : (k x : ℕ) → nat_cmp k x ≡ Equal → k ≡ x
equal_same k x e = by (nat_lt k x) (k == x) refl e where
  by : (a b : Bool) → (k == x) ≡ b → cond a Less (cond b Equal Greater) ≡ Equal → k ≡ x
  by true b q f = absurd (cc)
  by false true q f = eqb-true k x q
  by false false q f = absurd (cc)

less_below : (k x : ℕ) → nat_cmp k x ≡ Less → k < x
less_below k x e = by (nat_lt k x) (k == x) refl e where
  by : (a b : Bool) → nat_lt k x ≡ a → cond a Less (cond b Equal Greater) ≡ Less → k < x
  by true b q f = (Decides-ltb k x).0 q
  by false true q f = absurd (cc)
  by false false q f = absurd (cc)

further : (x : ℕ) (xs : List ℕ) (y : ℕ) → Contains xs y → Contains (x ∷ xs) y
further x xs y (i, low, is) = (suc i, omega (arith, low), is)

-- what is added is there
pub added_there : (ks : List ℕ) (k : ℕ) → Contains (insert_key nat_cmp ks k) k
added_there [] k = (0, omega arith, refl)
added_there (x ∷ xs) k = by (nat_cmp k x) refl (added_there xs k) where
  by : (o : Ordering) → nat_cmp k x ≡ o → Contains (insert_key nat_cmp xs k) k → Contains (match_ordering o (k ∷ x ∷ xs) (x ∷ xs) (x ∷ insert_key nat_cmp xs k)) k
  by Less e rest = (0, omega arith, refl)
  by Equal e rest = (0, omega arith, sym (equal_same k x e))
  by Greater e rest = further x (insert_key nat_cmp xs k) k rest

-- and what was there stays
pub others_there : (ks : List ℕ) (k y : ℕ) → Contains ks y → Contains (insert_key nat_cmp ks k) y
others_there [] k y (i, low, is) = absurd (omega (arith, low))
others_there (x ∷ xs) k y c = by (nat_cmp k x) c (others_there xs k y) where
  by : (o : Ordering) → Contains (x ∷ xs) y → (Contains xs y → Contains (insert_key nat_cmp xs k) y) →
      Contains (match_ordering o (k ∷ x ∷ xs) (x ∷ xs) (x ∷ insert_key nat_cmp xs k)) y
  by Less d rest = further k (x ∷ xs) y d
  by Equal d rest = d
  by Greater (zero, low, is) rest = (0, omega arith, is)
  by Greater (suc i, low, is) rest = further x (insert_key nat_cmp xs k) y (rest (i, omega (arith, low), is))

-- there is at most one more
pub one_more_there : (ks : List ℕ) (k : ℕ) → length (insert_key nat_cmp ks k) ≤ length ks + 1
one_more_there [] k = omega arith
one_more_there (x ∷ xs) k = by (nat_cmp k x) (one_more_there xs k) where
  by : (o : Ordering) → length (insert_key nat_cmp xs k) ≤ length xs + 1 → length (match_ordering o (k ∷ x ∷ xs) (x ∷ xs) (x ∷ insert_key nat_cmp xs k)) ≤ length (x ∷ xs) + 1
  by Less rest = omega arith
  by Equal rest = omega arith
  by Greater rest = omega (arith, rest)

-- what holds of all holds of all with one more of which it holds
pub all_added : (P : ℕ → Type 0) (ks : List ℕ) (k : ℕ) → All P ks → P k → All P (insert_key nat_cmp ks k)
all_added P [] k all p = All-cons P k [] p all
all_added P (x ∷ xs) k all p = by (nat_cmp k x) (all_added P xs k (All-tail P x xs all) p) where
  by : (o : Ordering) → All P (insert_key nat_cmp xs k) → All P (match_ordering o (k ∷ x ∷ xs) (x ∷ xs) (x ∷ insert_key nat_cmp xs k))
  by Less rest = All-cons P k (x ∷ xs) p all
  by Equal rest = all
  by Greater rest = All-cons P x (insert_key nat_cmp xs k) (All-head P x xs all) rest

-- the least of a set, and what is left of it
pub least_first : (k : ℕ) (rest : List ℕ) → All (λ x. nat_cmp k x ≡ Less) rest → All (λ x. k ≤ x) (k ∷ rest)
least_first k rest above = All-cons (λ x. k ≤ x) k rest (omega arith) (All-weaker (λ x. nat_cmp k x ≡ Less) (λ x. k ≤ x) (λ x e. omega (arith, less_below k x e)) rest above)
