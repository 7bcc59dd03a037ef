-- Counts over filters, and lists in order.
use Rattle.std.specs.Prelude.{◌≡◌, ℕ, suc, ◌+◌, List, [], ◌∷◌, true, false, Bool, cond, not, ◌&&◌, if◌then◌else◌, count_by, filter}
use Rattle.std.specs.List.{All, AllPairs}
use Rattle.std.proofs.Common.{arith, refl, ap, ◌∙◌}
use Rattle.std.proofs.lemmas.List.Elements.{All-head, All-tail}
use Rattle.std.proofs.lemmas.List.Sorted.{All-permutation}
use Rattle.chain_terms.specs.Chains.{one_if}
use Rattle.chain_laws.specs.Counts.{count_by-cons}
use Rattle.chain_laws.specs.Sorting.{insert_by, sorted_by}
use Rattle.chain_laws.proofs.Sorting.{sorted_by-permutation}
use Rattle.sheet_terms.specs.Places.{ordered, put}

-- a count with a member that may be there
count_if : {X : Type 0} (p : X → Bool) (b : Bool) (x : X) (xs : List X) → count_by p (cond b (x ∷ xs) xs) ≡ cond b (one_if (p x)) 0 + count_by p xs
count_if p true x xs = count_by-cons p x xs
count_if p false x xs = omega arith

-- where one of two tests is passed just where a third is, the counts add up
pub count_filters : {X : Type 0} (c p q r : X → Bool) (xs : List X) → All (λ x. one_if (p x) + one_if (q x) ≡ one_if (r x)) xs →
    count_by c (filter p xs) + count_by c (filter q xs) ≡ count_by c (filter r xs)
count_filters c p q r [] all = refl
count_filters c p q r (x ∷ xs) all =
    let rest = count_filters c p q r xs (All-tail (λ y. one_if (p y) + one_if (q y) ≡ one_if (r y)) x xs all) in
    let here = one (p x) (q x) (r x) (one_if (c x)) (All-head (λ y. one_if (p y) + one_if (q y) ≡ one_if (r y)) x xs all) in
    omega (arith, rest, here, count_if c (p x) x (filter p xs), count_if c (q x) x (filter q xs), count_if c (r x) x (filter r xs))
  where
    one : (p q r : Bool) (n : ℕ) → one_if p + one_if q ≡ one_if r → cond p n 0 + cond q n 0 ≡ cond r n 0
    one true true true n h = absurd (omega (arith, h))
    one true true false n h = absurd (omega (arith, h))
    one true false true n h = omega arith
    one true false false n h = absurd (omega (arith, h))
    one false true true n h = omega arith
    one false true false n h = absurd (omega (arith, h))
    one false false true n h = absurd (omega (arith, h))
    one false false false n h = omega arith

-- a filter of a filter
pub filter_filter : {X : Type 0} (p q : X → Bool) (xs : List X) → filter p (filter q xs) ≡ filter (λ x. q x && p x) xs
filter_filter p q [] = refl
filter_filter p q (x ∷ xs) = one (q x) (p x) (filter q xs) (filter (λ y. q y && p y) xs) (filter_filter p q xs)
  where
    one : (s t : Bool) (ys zs : List _) → filter p ys ≡ zs → filter p (cond s (x ∷ ys) ys) ≡ cond (s && p x) (x ∷ zs) zs
    one true t ys zs e = ap (λ l. cond (p x) (x ∷ l) l) e
    one false t ys zs e = e

-- where a test says of two members, the first of which stands before the other, what another says of them turned, insertion by both gives one list
module _ {X : Type 0} (before lt : X → X → Bool) where
  abbrev Agree : X → X → Type 0
  Agree x y = before x y ≡ not (lt y x)

  put_same : (x : X) (ys : List X) → All (Agree x) ys → put before x ys ≡ insert_by lt x ys
  put_same x [] all = refl
  put_same x (y ∷ ys) all = by (before x y) (lt y x) (All-head (Agree x) y ys all) (put_same x ys (All-tail (Agree x) y ys all))
    where
      by : (s t : Bool) → s ≡ not t → put before x ys ≡ insert_by lt x ys → (if s then x ∷ y ∷ ys else y ∷ put before x ys) ≡ cond t (y ∷ insert_by lt x ys) (x ∷ y ∷ ys)
      by true true e rest = absurd cc
      by true false e rest = refl
      by false true e rest = ap (λ l. y ∷ l) rest
      by false false e rest = absurd cc

  pub ordered_same : (xs : List X) → AllPairs Agree xs → ordered before xs ≡ sorted_by lt xs
  ordered_same [] all = refl
  ordered_same (x ∷ xs) all =
      let first : All (Agree x) xs = λ k d low. all 0 (suc k) d (omega arith) (omega (arith, low)) in
      let rest = ordered_same xs (λ i j d l low. all (suc i) (suc j) d (omega (arith, l)) (omega (arith, low))) in
      ap (put before x) rest ∙ put_same x (sorted_by lt xs) (All-permutation (Agree x) xs (sorted_by lt xs) (sorted_by-permutation lt xs) first)
