-- The place of a member in a sorted list is the number of members that are less.
use Rattle.std.proofs.Common.{◌≡◌, ◌<◌, ◌≤◌, ◌+◌, ℕ, zero, suc, Bool, true, false, not, List, [], ◌∷◌, length, get_or, is_lt, refl, sym, ◌∙◌, ap, arith}
use Rattle.std.specs.Prelude.{count_by}
use Rattle.std.specs.Cmp.{IsStrictWeakOrder}
use Rattle.std.specs.List.Sorted.{IsSortedBy}
use Rattle.std.proofs.lemmas.Bool.{not_from_false}
use Rattle.std.proofs.lemmas.Cmp.{then_total, on_total, nat_cmp_total}
use Rattle.std.proofs.lemmas.List.MinMax.{ranks_by}
use Rattle.std.proofs.lemmas.List.Sorted.{sorted_far}
use Rattle.chain_terms.specs.Chains.{one_if}
use Rattle.chain_laws.specs.Counts.{one_if-true, one_if-false, count_by-cons}
use Rattle.chain_terms.specs.Ranks.{start, finish}
use Rattle.mesh_terms.specs.OpenEdges.{is_lesser}
use Rattle.halfedge.specs.Pairing.{Half, numbered, half_cmp}

-- where no member from place i on passes, at most i do
pub count_at_most : {X : Type 0} (p : X → Bool) (xs : List X) (i : ℕ) → ((j : ℕ) (d : X) → i ≤ j → j < length xs → p (get_or xs j d) ≡ false) → count_by p xs ≤ i
count_at_most p [] i none = omega arith
count_at_most p (x ∷ xs) zero none =
    omega (
      arith,
      count_by-cons p x xs,
      one_if-false (p x) (none 0 x (omega arith) (omega arith)),
      count_at_most p xs 0
          (λ j d low high. none (suc j) d (omega arith) (omega (arith, high))),
    )
count_at_most p (x ∷ xs) (suc i) none =
    omega (arith, count_by-cons p x xs, one_at_most (p x), count_at_most p xs i (λ j d low high. none (suc j) d (omega (arith, low)) (omega (arith, high))))
  where
    one_at_most : (t : Bool) → one_if t ≤ 1
    one_at_most true = omega arith
    one_at_most false = omega arith

-- where each member up to place i passes, more than i do
pub count_more : {X : Type 0} (p : X → Bool) (xs : List X) (i : ℕ) → i < length xs → ((j : ℕ) (d : X) → j ≤ i → p (get_or xs j d) ≡ true) → i < count_by p xs
count_more p [] i below each = absurd (omega (arith, below))
count_more p (x ∷ xs) zero below each = omega (arith, count_by-cons p x xs, one_if-true (p x) (each 0 x (omega arith)))
count_more p (x ∷ xs) (suc i) below each =
    omega (arith, count_by-cons p x xs, one_if-true (p x) (each 0 x (omega arith)), count_more p xs i (omega (arith, below)) (λ j d low. each (suc j) d (omega (arith, low))))

-- the place of a half-edge lies between the number of those that are less and the number of those that are not greater
pub record IsBetween (xs : List Half) (i : ℕ) (e : Half) : Type 0 where
  pub low : count_by (λ c. is_lt (half_cmp c e)) xs ≤ i
  pub high : i < count_by (λ c. not (is_lt (half_cmp e c))) xs

-- a sorted list has its members at such places
pub between : IsStrictWeakOrder (λ x y. is_lt (half_cmp x y)) → (xs : List Half) → IsSortedBy (λ x y. is_lt (half_cmp x y)) xs → (i : ℕ) (e : Half) →
    i < length xs → ((d : Half) → get_or xs i d ≡ e) → IsBetween xs i e
between order xs up i e below is = record {
  low = count_at_most (λ c. is_lt (half_cmp c e)) xs i
      (λ j d low high. ap (λ m. is_lt (half_cmp (get_or xs j d) m)) (sym (is d)) ∙ sorted_far (λ x y. is_lt (half_cmp x y)) order xs up i j d low high);
  high = count_more (λ c. not (is_lt (half_cmp e c))) xs i below
      (λ j d low. not_from_false (is_lt (half_cmp e (get_or xs j d)))
      (ap (λ m. is_lt (half_cmp m (get_or xs j d))) (sym (is d)) ∙ sorted_far (λ x y. is_lt (half_cmp x y)) order xs up j i d low below));
}

-- how many edges are lesser than x
abbrev pub lesser_count : List (ℕ × ℕ) → ℕ × ℕ → ℕ
lesser_count es x = count_by (λ e. is_lesser e x) es

-- half-edges are ordered
pub half_order : IsStrictWeakOrder (λ x y. is_lt (half_cmp x y))
half_order =
    ranks_by (then_total (then_total (on_total (λ (e : Half). e.0) nat_cmp_total) (on_total (λ (e : Half). e.1) nat_cmp_total))
    (on_total (λ (e : Half). e.2) nat_cmp_total)) (λ e. e)

-- as many half-edges as edges
pub length-numbered : (k : ℕ) (es : List (ℕ × ℕ)) → length (numbered k es) ≡ length es
length-numbered k [] = refl
length-numbered k (e ∷ es) = omega (arith, length-numbered (suc k) es)

-- the half-edge at a place of the numbered list
pub numbered_at : (k : ℕ) (es : List (ℕ × ℕ)) (j : ℕ) (d : Half) → j < length es → get_or (numbered k es) j d ≡ (start es j, finish es j, k + j)
numbered_at k [] j d below = absurd (omega (arith, below))
numbered_at k (e ∷ es) zero d below = let here : k ≡ k + 0 = omega arith in ap (λ n. (e.0, e.1, n)) here
numbered_at k (e ∷ es) (suc j) d below =
    let at : suc k + j ≡ k + suc j = omega arith in numbered_at (suc k) es j d (omega (arith, below)) ∙ ap (λ n. (start es j, finish es j, n)) at

-- what a place of the sorted list holds
pub record Holds (es : List (ℕ × ℕ)) (xs : List Half) (i : ℕ) : Type 0 where
  pub half : ℕ
  pub within : half < length es
  pub is : (d : Half) → get_or xs i d ≡ (start es half, finish es half, half)
