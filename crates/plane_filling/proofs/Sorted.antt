-- Loops in ascending order: what a sort gives is what insertion gives.
use Rattle.std.specs.Prelude.{◌≡◌, ℕ, ◌<◌, List, [], ◌∷◌, Bool, true, false, length, get_or, ◌==◌, ◌||◌, ◌&&◌}
use Rattle.std.specs.Cmp.{IsStrictWeakOrder}
use Rattle.std.specs.Cmp.Lexicographic.{slice_cmp}
use Rattle.std.specs.List.Sorted.{IsPermutation, IsSortedBy}
use Rattle.std.specs.Ordering.{is_lt, nat_cmp}
use Rattle.std.proofs.Common.{Ordering, arith, refl, sym, ap, subst, ◌∙◌, inl, inr}
use Rattle.std.proofs.lemmas.Bool.{both_ways, cases_Bool, cases_order, cond_both, eq-eqb, le-ltb, lt-ltb}
use Rattle.std.proofs.lemmas.Bool.Decides.{nat_tests}
use Rattle.std.proofs.lemmas.Cmp.{nat_list_cmp_total, same_from_slice_cmp}
use Rattle.std.proofs.lemmas.List.Sorted.{IsPermutation-cons, IsPermutation-middle, IsPermutation-refl, IsPermutation-trans, ranks_by, sum_by-IsPermutation}
use Rattle.chain_laws.proofs.Sorting.{sorted_cons, sorted_rest, sorted_same, tie, tie-parts}
use Rattle.std.specs.Prelude.{cond}
use Rattle.sheet_terms.specs.Filled.{comes_before}
use Rattle.sheet_terms.specs.Places.{ordered, put}

-- the order of the definition is that of slices
pub is_before : (xs ys : List ℕ) (o : Ordering) → o ≡ slice_cmp nat_cmp xs ys → is_lt o ≡ comes_before xs ys
is_before = same_from_slice_cmp nat_cmp is_lt comes_before refl (λ _ _. refl) (λ _ _. refl) (λ x y xs ys o h. grind (arith, nat_tests))

-- so it is an order
pub before_order : IsStrictWeakOrder comes_before
before_order =
    subst IsStrictWeakOrder (λ j xs ys. is_before xs ys (slice_cmp nat_cmp xs ys) refl j) (ranks_by nat_list_cmp_total (λ (l : List ℕ). l))

-- of two different lists one comes first
equal_lists : (xs ys : List ℕ) → comes_before xs ys ≡ false → comes_before ys xs ≡ false → xs ≡ ys
equal_lists [] [] h k = refl
equal_lists [] (y ∷ ys) h k = absurd (both_ways true h refl)
equal_lists (x ∷ xs) [] h k = absurd (both_ways true k refl)
equal_lists (x ∷ xs) (y ∷ ys) h k = elim (cases_order x y) as (λ _. ◌≡◌ {A = List ℕ} (x ∷ xs) (y ∷ ys)) [
  | inl e ↦
      let here = rest x y xs ys e h in
      let there = rest y x ys xs (sym e) k in
      ap (λ v. v ∷ xs) e ∙ ap (λ l. y ∷ l) (equal_lists xs ys here there)
  | inr (inl l) ↦ absurd (both_ways (comes_before (x ∷ xs) (y ∷ ys)) h (ap (λ b. b || ((x == y) && comes_before xs ys)) (lt-ltb x y l)))
  | inr (inr l) ↦ absurd (both_ways (comes_before (y ∷ ys) (x ∷ xs)) k (ap (λ b. b || ((y == x) && comes_before ys xs)) (lt-ltb y x l)))
]
  where
    rest : (a b : ℕ) (s t : List ℕ) → a ≡ b → comes_before (a ∷ s) (b ∷ t) ≡ false → comes_before s t ≡ false
    rest a b s t e h =
        sym (ap (λ u. u || ((a == b) && comes_before s t)) (le-ltb a b (omega (arith, e))) ∙ ap (λ u. u && comes_before s t) (eq-eqb a b e)) ∙ h

module _ {X : Type 0} (lt : X → X → Bool) (order : IsStrictWeakOrder lt) where
  -- an insertion moves no other member
  put-permutation : (x : X) (ys : List X) → IsPermutation (x ∷ ys) (put lt x ys)
  put-permutation x [] = IsPermutation-refl (x ∷ [])
  put-permutation x (y ∷ ys) =
      cond_both (lt x y) (x ∷ y ∷ ys) (y ∷ put lt x ys) (λ l. IsPermutation (x ∷ y ∷ ys) l) (λ t. IsPermutation-refl (x ∷ y ∷ ys))
      (λ f. IsPermutation-trans (x ∷ y ∷ ys) (y ∷ x ∷ ys) (y ∷ put lt x ys) (IsPermutation-middle (x ∷ []) y ys)
      (IsPermutation-cons y (x ∷ ys) (put lt x ys) (put-permutation x ys)))

  pub ordered-permutation : (xs : List X) → IsPermutation xs (ordered lt xs)
  ordered-permutation [] = IsPermutation-refl []
  ordered-permutation (x ∷ xs) =
      IsPermutation-trans (x ∷ xs) (x ∷ ordered lt xs) (put lt x (ordered lt xs)) (IsPermutation-cons x xs (ordered lt xs) (ordered-permutation xs))
      (put-permutation x (ordered lt xs))

  -- the head after an insertion
  put-head : (z x : X) (ys : List X) → lt x z ≡ false → ((d : X) → 0 < length ys → lt (get_or ys 0 d) z ≡ false) → (d : X) → lt (get_or (put lt x ys) 0 d) z ≡ false
  put-head z x [] level first d = level
  put-head z x (y ∷ ys) level first d =
      cond_both (lt x y) (x ∷ y ∷ ys) (y ∷ put lt x ys) (λ l. lt (get_or l 0 d) z ≡ false) (λ t. level) (λ f. first d (omega arith))

  -- an insertion into a sorted list leaves it sorted
  put-sorted : (x : X) (ys : List X) → IsSortedBy lt ys → IsSortedBy lt (put lt x ys)
  put-sorted x [] up = λ k d low high. absurd (omega (arith, high))
  put-sorted x (y ∷ ys) up = elim (cases_Bool (lt x y)) as (λ _. IsSortedBy lt (put lt x (y ∷ ys))) [
    | inl t ↦ rw t (sorted_cons lt x (y ∷ ys) up (λ d l. order.one_way x y t))
    | inr f ↦ rw f (sorted_cons lt y (put lt x ys) (put-sorted x ys (sorted_rest lt y ys up))
        (λ d l. put-head y x ys f (λ c m. up 0 c (omega arith) (omega (arith, m))) d))
  ]

  pub ordered-sorted : (xs : List X) → IsSortedBy lt (ordered lt xs)
  ordered-sorted [] = λ k d low high. absurd (omega (arith, high))
  ordered-sorted (x ∷ xs) = put-sorted x (ordered lt xs) (ordered-sorted xs)

  -- so a sort gives the list in order, where members that tie are equal
  sort_orders : ((x y : X) → tie lt x y ≡ true → x ≡ y) → (xs ys : List X) → IsPermutation xs ys → IsSortedBy lt ys → ys ≡ ordered lt xs
  sort_orders equal xs ys moved up =
      sorted_same lt order ys (ordered lt xs) up (ordered-sorted xs)
      (λ p. sum_by-IsPermutation (λ x. cond (p x) 1 0) xs ys moved ∙ sym (sum_by-IsPermutation (λ x. cond (p x) 1 0) xs (ordered lt xs) (ordered-permutation xs)))
      (λ x y a b t. equal x y t)

-- loops in order
pub loops_ordered : (xs ys : List (List ℕ)) → IsPermutation xs ys → IsSortedBy comes_before ys → ys ≡ ordered comes_before xs
loops_ordered xs ys moved up =
    sort_orders comes_before before_order (λ x y t. let level = tie-parts comes_before x y t in equal_lists x y level.0 level.1) xs ys moved up
